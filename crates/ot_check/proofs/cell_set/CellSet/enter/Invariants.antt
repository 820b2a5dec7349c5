use Rattle.std.proofs.Common.{◌≡◌, ◌||◌, take}
use Rattle.ot_model.specs.declared.expr.Cell.{Cell}
use Rattle.ot_check.specs.Offences.{has_cell}
use Rattle.ot_check.specs.walk.States.{holds}
use Rattle.ot_check.proofs.cell_set.CellSet.enter.Given as goal

abbrev pub invariant-loop-cell : goal.invariant-loop-cell
invariant-loop-cell l = (c : Cell) → holds l.self c ≡ (holds l.fn.self c || has_cell (take l.cell-index l.cells) c)
