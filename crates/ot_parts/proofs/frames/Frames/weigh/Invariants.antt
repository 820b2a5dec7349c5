use Rattle.std.proofs.Common.{◌≡◌, ◌+◌, drop}
use Rattle.ot_parts.specs.Left.{outer_parts, parts_left}
use Rattle.ot_parts.specs.Parts.{parts_of, weight}
use Rattle.ot_parts.proofs.frames.Frames.weigh.Given as goal

-- what is weighed and what is not yet weigh what all do
abbrev pub invariant-loop-frame : goal.invariant-loop-frame
invariant-loop-frame l = l.sum + weight (parts_of (outer_parts (drop l.frame-index l.self.outer.items))) ≡ weight (parts_of (parts_left l.self))
