use Rattle.std.proofs.Common.{◌≡◌, ◌<◌, ◌^◌, ◌++◌, drop}
use Rattle.std.specs.Prelude.{All}
use Rattle.ot_model.specs.Programs.{arrays_of}
use Rattle.ot_c_judge.specs.Start.{array_names_of}
use Rattle.ot_c_judge.proofs.start.shape_of.Given as goal

-- those that are left follow
abbrev pub invariant-loop-array : goal.invariant-loop-array
invariant-loop-array l = record {
  named : arrays_of l.named.items ++ array_names_of (drop l.array-index l.arrays) ≡ array_names_of l.arrays;
  short : All (λ a. a.1 < 2 ^ 32) (arrays_of l.named.items);
}
