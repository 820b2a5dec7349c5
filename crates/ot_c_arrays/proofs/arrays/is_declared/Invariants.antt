use Rattle.std.proofs.Common.{◌≡◌, map, drop}
use Rattle.ot_c_arrays.specs.Arrays.{c_array}
use Rattle.ot_c_arrays.specs.Arrays as meant
use Rattle.ot_c_arrays.proofs.arrays.is_declared.Given as goal

-- those that are left decide
abbrev pub invariant-loop-array : goal.invariant-loop-array
invariant-loop-array l = meant.is_declared (map c_array (drop l.array-index l.arrays)) l.name ≡ meant.is_declared (map c_array l.arrays) l.name
