use Rattle.std.proofs.Common.{◌≤◌, length, drop}
use Rattle.ot_model.specs.Programs.{arrays_of}
use Rattle.ot_c_overlap.specs.Named.{ArePlacedFrom}
use Rattle.ot_c_overlap.proofs.names.positions_of.Given as goal

-- the map has the arrays from this position on
abbrev pub invariant-loop-position : goal.invariant-loop-position
invariant-loop-position l = (l.position ≤ length l.arrays) × ArePlacedFrom l.position (arrays_of (drop l.position l.arrays)) l.positions

abbrev pub decreases-loop-position : goal.decreases-loop-position
decreases-loop-position l = l.position
