use Rattle.std.proofs.Common.{◌≡◌, take}
use Rattle.ot_model.specs.Programs.{arrays_of}
use Rattle.ot_book.proofs.told.copy_arrays.Given as goal

abbrev pub invariant-loop-array : goal.invariant-loop-array
invariant-loop-array l = arrays_of l.copy.items ≡ arrays_of (take l.array-index l.array-items)
