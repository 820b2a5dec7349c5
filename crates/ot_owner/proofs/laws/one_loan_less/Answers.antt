use Rattle.ot_owner.proofs.OutLemmas.{permutation_rest}
use Rattle.ot_owner.proofs.laws.one_loan_less.Goals as goal

pub returns : goal.returns
returns c = λ loan out others same. permutation_rest loan out others same
