use Rattle.ot_why_blame.proofs.FindLemmas.{nothing_there}
use Rattle.ot_why_blame.proofs.offence.find_blame.Goals as goal

pub returns-in_default : goal.returns-in_default
returns-in_default c = λ offends. nothing_there _ _ c.args.offence c.in_default.ensures.met offends
