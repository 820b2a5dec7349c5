use Rattle.std.proofs.Common.{◌≡◌, ◌++◌, drop, map}
use Rattle.ot_parts.specs.Assigns.{assigns_of}
use Rattle.ot_parts.specs.Steps.{deed_of, deeds_of}
use Rattle.ot_parts.proofs.steps.steps_of.Given as goal

-- what is written, with what is left
abbrev pub invariant-loop-assign : goal.invariant-loop-assign
invariant-loop-assign l = map deed_of l.steps.items ++ deeds_of (assigns_of (drop l.assign-index l.list)) ≡ deeds_of (assigns_of l.list)
