use Rattle.std.proofs.Common.{◌≡◌, ◌<◌, ℕ}
use Rattle.std.specs.Prelude.{Some, slice_get}
use Rattle.ot_race_locks.specs.Kinds.{kind, kind_of}
use Rattle.ot_race_locks.specs.declared.group.Group.{Group}
use Rattle.ot_race_locks.proofs.line.Line.find.Given as goal

-- none of those so far is of this kind
abbrev pub invariant-loop-place : goal.invariant-loop-place
invariant-loop-place l = (k : ℕ) (g : Group) → k < l.place → slice_get l.self.groups.items k ≡ Some g → kind_of g ≡ kind l.set l.mode → ⊥
