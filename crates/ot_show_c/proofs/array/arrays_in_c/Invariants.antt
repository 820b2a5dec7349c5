use Rattle.std.proofs.Common.{◌≡◌, ◌++◌, drop}
use Rattle.ot_model.specs.Programs.{arrays_of}
use Rattle.ot_show_c.specs.Programs.{arrays_in_c}
use Rattle.ot_show_c.proofs.array.arrays_in_c.Given as goal

-- those that are left follow
abbrev pub invariant-loop-array : goal.invariant-loop-array
invariant-loop-array l = arrays_of l.called.items ++ arrays_in_c (arrays_of (drop l.array-index l.arrays)) ≡ arrays_in_c (arrays_of l.arrays)
