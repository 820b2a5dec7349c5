use Rattle.std.proofs.Common.{◌≡◌, drop}
use Rattle.std.specs.List.{fold}
use Rattle.ot_model.specs.declared.expr.Cell.{Cell}
use Rattle.ot_parts.specs.Assigns.{assigns_of}
use Rattle.ot_parts.specs.Modes.{mode_added, strongest, AssignsFit, assign_touches}
use Rattle.ot_parts.proofs.touched.touched.Given as goal

-- what is touched so far, with the touches that are left
abbrev pub invariant-loop-assign : goal.invariant-loop-assign
invariant-loop-assign l =
    ((c : Cell) → fold (mode_added c) (strongest l.held c) (assign_touches (assigns_of (drop l.assign-index l.assigns)))
    ≡ strongest (assign_touches (assigns_of l.assigns)) c)
    × AssignsFit (assigns_of (drop l.assign-index l.assigns))
