use Rattle.std.proofs.Common.{◌≡◌, drop}
use Rattle.std.specs.Prelude.{map, None}
use Rattle.ot_why_mixed.specs.Rows.{row_by, sweep}
use Rattle.ot_why_mixed.proofs.mixed.first_mixed.Given as goal

-- what is met among all is met among the rest
abbrev pub invariant-loop-clause : goal.invariant-loop-clause
invariant-loop-clause l = sweep 0 None (map row_by l.named) ≡ sweep l.reach l.fold (map row_by (drop l.clause-index l.named))
