use Rattle.std.proofs.Common.{◌≡◌, [], drop}
use Rattle.ot_model.specs.Programs.{arrays_of}
use Rattle.ot_file_judge.specs.Judging.{arrays_made}
use Rattle.ot_file_judge.proofs.arrays.store_with.Given as goal

abbrev pub invariant-loop-place : goal.invariant-loop-place
invariant-loop-place l = arrays_made l.store (arrays_of (drop l.place l.arrays)) ≡ arrays_made [] (arrays_of l.arrays)
