use Rattle.std.proofs.Common.{◌≡◌, ◌≤◌, ◌<◌, ◌-◌, ℕ, [], ◌∷◌, false, length, take}
use Rattle.std.specs.Prelude.{Some, slice_get}
use Rattle.ot_model.specs.declared.stmt.Use.{Use}
use Rattle.ot_depend.specs.Children.{kids_of}
use Rattle.ot_depend.specs.Cells.{some_must_wait}
use Rattle.ot_depend.proofs.cells.Table.count_free.Given as goal

abbrev pub invariant-loop-place : goal.invariant-loop-place
invariant-loop-place l = record {
  from : l.initial.place ≤ l.place;
  bounded : l.initial.place ≤ length l.uses → l.place ≤ length l.uses;
  free : some_must_wait (kids_of l.children) l.self (take l.initial.place l.uses) ≡ false → some_must_wait (kids_of l.children) l.self (take l.place l.uses) ≡ false;
  passed : (i : ℕ) (u : Use) → l.initial.place ≤ i → i < l.place → slice_get l.uses i ≡ Some u → some_must_wait (kids_of l.children) l.self (u ∷ []) ≡ false;
}

abbrev pub decreases-loop-place : goal.decreases-loop-place
decreases-loop-place l = length l.uses - l.place
