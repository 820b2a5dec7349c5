use Rattle.std.proofs.Common.{◌≡◌, drop}
use Rattle.std.specs.Prelude.{find, bytes_eq}
use Rattle.ot_model.specs.Programs.{arrays_of}
use Rattle.ot_why_fault.proofs.look.len_of.Given as goal

-- the first of the rest of the arrays is the first of all
abbrev pub invariant-loop-array : goal.invariant-loop-array
invariant-loop-array l = find (λ a. bytes_eq a.0 l.name) (arrays_of (drop l.array-index l.arrays)) ≡ find (λ a. bytes_eq a.0 l.name) (arrays_of l.arrays)
