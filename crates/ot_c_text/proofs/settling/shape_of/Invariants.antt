use Rattle.std.proofs.Common.{◌≡◌, ◌<◌, ◌^◌, ◌++◌, drop, map, length}
use Rattle.std.specs.Prelude.{All}
use Rattle.ot_model.specs.Programs.{arrays_of}
use Rattle.ot_c_arrays.specs.Arrays.{c_array}
use Rattle.ot_c_text.specs.Settling.{settled_shape}
use Rattle.ot_c_text.proofs.settling.shape_of.Given as goal

-- those that are left follow
abbrev pub invariant-loop-array : goal.invariant-loop-array
invariant-loop-array l = record {
  named : arrays_of l.named.items ++ (settled_shape (map c_array (drop l.array-index l.arrays))).arrays ≡ (settled_shape (map c_array l.arrays)).arrays;
  short : All (λ a. a.1 < 2 ^ 32) (arrays_of l.named.items);
}
