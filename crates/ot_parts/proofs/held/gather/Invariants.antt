use Rattle.std.proofs.Common.{◌≡◌, drop}
use Rattle.std.specs.List.{fold}
use Rattle.ot_model.specs.Cells.{AreInOrder, mode_in}
use Rattle.ot_model.specs.declared.expr.Cell.{Cell}
use Rattle.ot_parts.specs.Modes.{mode_added, strongest}
use Rattle.ot_parts.proofs.held.gather.Given as goal

-- what stands in the list so far, with the uses that are left
abbrev pub invariant-loop-used : goal.invariant-loop-used
invariant-loop-used l =
    AreInOrder l.list.items × ((c : Cell) → fold (mode_added c) (mode_in l.list.items c) (drop l.used-index l.used-items) ≡ strongest l.used-items c)
