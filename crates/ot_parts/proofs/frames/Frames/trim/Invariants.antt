use Rattle.std.proofs.Common.{◌≡◌}
use Rattle.ot_parts.specs.Left.{parts_left, rest_left, steps_left}
use Rattle.ot_parts.specs.Parts.{parts_of}
use Rattle.ot_parts.proofs.frames.Frames.trim.Given as goal

abbrev pub invariant-loop-self : goal.invariant-loop-self
invariant-loop-self l = rest_left l.passed (parts_of (parts_left l.self)) ≡ rest_left l.passed (parts_of (parts_left l.fn.self))

abbrev pub decreases-loop-self : goal.decreases-loop-self
decreases-loop-self l = steps_left l.self
