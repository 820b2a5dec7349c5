use Rattle.ot_why_reason.proofs.NumberLemmas.{AreNumbersTo}
use Rattle.ot_why_reason.proofs.form.first_other.Given as goal

abbrev pub invariant-loop-place : goal.invariant-loop-place
invariant-loop-place l = AreNumbersTo l.items l.place
