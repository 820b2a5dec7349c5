use Rattle.std.proofs.Common.{◌≡◌, length}
use Rattle.ot_model.specs.Tree.{append}
use Rattle.ot_parts.specs.Assigns.{assigns_of}
use Rattle.ot_parts.specs.Parts.{leading, after_parts, parts_of}
use Rattle.ot_parts.specs.Left.{outer_parts, parts_left}
use Rattle.ot_parts.proofs.frames.Frames.gather.Given as goal

-- what is gathered, with what is left
abbrev pub invariant-loop-frame : goal.invariant-loop-frame
invariant-loop-frame l =
    (append (assigns_of l.run.items) (leading (parts_of (outer_parts l.left))) ≡ append (assigns_of l.fn.run.items) (leading (parts_of (parts_left l.self))))
    × (after_parts (parts_of (outer_parts l.left)) ≡ after_parts (parts_of (parts_left l.self)))

abbrev pub decreases-loop-frame : goal.decreases-loop-frame
decreases-loop-frame l = length l.left
