use Rattle.std.proofs.Common.{◌≡◌, ◌+◌, drop}
use Rattle.ot_model.specs.Programs.{arrays_of}
use Rattle.ot_why_reason.specs.Faults.{cells_count}
use Rattle.ot_why_reason.proofs.fault.count.Given as goal

-- the cells so far and those of the rest are all
abbrev pub invariant-loop-array : goal.invariant-loop-array
invariant-loop-array l = l.cells + cells_count (arrays_of (drop l.array-index l.arrays)) ≡ cells_count (arrays_of l.arrays)
