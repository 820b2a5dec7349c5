use Rattle.std.proofs.Common.{◌≡◌, ◌≤◌, ◌+◌, ℕ, true}
use Rattle.std.specs.Prelude.{Some, slice_get}
use Rattle.ot_sets.specs.Sets.{has}
use Rattle.ot_race_locks.proofs.group.missing_from.Given as goal

-- those that are passed are in the set
abbrev pub invariant-loop-passed : goal.invariant-loop-passed
invariant-loop-passed l = (k e : ℕ) → slice_get l.tips k ≡ Some e → l.count ≤ k + l.passed → has l.known e ≡ true
