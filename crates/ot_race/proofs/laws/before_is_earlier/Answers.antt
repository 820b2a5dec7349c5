use Rattle.ot_race.proofs.OrderLemmas.{before_less}
use Rattle.ot_race.proofs.laws.before_is_earlier.Goals as goal

pub returns : goal.returns
returns c = before_less
