use Rattle.ot_why_explain.specs.Explaining.{beginner}
use Rattle.ot_why_explain.proofs.ExplainLemmas.{explains_nothing}
use Rattle.ot_why_explain.proofs.explaining.explain.Goals as goal

pub returns-in_default-clause-failed : goal.returns-in_default-clause-failed
returns-in_default-clause-failed g c = (beginner, explains_nothing beginner _ _ _)

pub returns-in_default-new-clause-failed : goal.returns-in_default-new-clause-failed
returns-in_default-new-clause-failed g c = (beginner, explains_nothing beginner _ _ _)
