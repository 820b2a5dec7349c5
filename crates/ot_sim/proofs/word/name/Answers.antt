use Rattle.std.proofs.Common.{refl}
use Rattle.ot_sim.proofs.WordLemmas.{other-bytes}
use Rattle.ot_sim.proofs.word.name.Goals as goal

pub returns-in_default : goal.returns-in_default
returns-in_default c = rw (other-bytes c.args.word.now c.in_default.ensures.cases.0) refl
