use Rattle.ot_client_mirror.proofs.FollowsLemmas.{follows}
use Rattle.ot_client_mirror.proofs.mirror.mirrors_follow.Goals as goal

pub returns : goal.returns
returns c = follows
