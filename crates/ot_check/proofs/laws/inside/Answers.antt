use Rattle.ot_check.proofs.InsideLemmas.{inside}
use Rattle.ot_check.proofs.laws.inside.Goals as goal

pub returns : goal.returns
returns c = inside
