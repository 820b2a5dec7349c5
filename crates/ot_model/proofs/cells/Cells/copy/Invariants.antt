use Rattle.std.proofs.Common.{◌≡◌, map, take}
use Rattle.ot_model.proofs.cells.Cells.copy.Given as goal

abbrev pub invariant-loop-array : goal.invariant-loop-array
invariant-loop-array l = map (λ a. a.items) l.arrays.items ≡ map (λ a. a.items) (take l.array-index l.array-items)
