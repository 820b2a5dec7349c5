use Rattle.std.proofs.Common.{◌≡◌, ◌<◌, ◌^◌, ◌++◌, drop}
use Rattle.std.specs.Prelude.{All}
use Rattle.ot_model.specs.Programs.{arrays_of}
use Rattle.ot_c_printed.proofs.arrays.shape_of.Given as goal

-- those that are left follow
abbrev pub invariant-loop-array : goal.invariant-loop-array
invariant-loop-array l = record {
  named : arrays_of l.named.items ++ arrays_of (drop l.array-index l.arrays) ≡ arrays_of l.arrays;
  short : All (λ a. a.1 < 2 ^ 32) (arrays_of l.named.items);
}
