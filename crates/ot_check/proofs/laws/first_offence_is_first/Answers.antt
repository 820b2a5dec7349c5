use Rattle.ot_check.proofs.FirstLemmas.{first_offence-is_first, first_offence-only}
use Rattle.ot_check.proofs.laws.first_offence_is_first.Goals as goal

pub returns : goal.returns
returns c = λ body. (first_offence-is_first body, first_offence-only body)
