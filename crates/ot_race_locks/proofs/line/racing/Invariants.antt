use Rattle.std.proofs.Common.{◌≡◌, ◌<◌, ◌≤◌, ℕ, true}
use Rattle.std.specs.Prelude.{Some, slice_get, Contains}
use Rattle.ot_sets.specs.Sets.{has}
use Rattle.ot_race_locks.specs.Kinds.{kind, kind_of, are_against}
use Rattle.ot_race_locks.specs.declared.group.Group.{Group}
use Rattle.ot_race_locks.proofs.line.racing.Given as goal

-- in those so far that are against the kind no tip is missing
abbrev pub invariant-loop-group : goal.invariant-loop-group
invariant-loop-group l =
    (k e : ℕ) (g : Group) → k < l.group-index → slice_get l.groups k ≡ Some g → are_against l.locks (kind_of g) (kind l.set l.mode) ≡ true
    → Contains g.tips.items e → l.from ≤ e → has l.known e ≡ true
