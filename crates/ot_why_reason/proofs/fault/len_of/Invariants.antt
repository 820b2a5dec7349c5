use Rattle.std.proofs.Common.{◌≡◌, drop}
use Rattle.std.specs.Prelude.{bytes_eq}
use Rattle.std.specs.Map.{lookup}
use Rattle.ot_model.specs.Programs.{arrays_of}
use Rattle.ot_why_reason.proofs.fault.len_of.Given as goal

-- the rest of the arrays has what all of them have
abbrev pub invariant-loop-array : goal.invariant-loop-array
invariant-loop-array l = lookup (bytes_eq l.name) (arrays_of (drop l.array-index l.arrays)) ≡ lookup (bytes_eq l.name) (arrays_of l.arrays)
