use Rattle.std.proofs.Common.{◌≡◌, take}
use Rattle.ot_model.specs.declared.expr.Cell.{Cell}
use Rattle.ot_depend.specs.Siblings.{uses_cell, writes_cell}
use Rattle.ot_show_graph.specs.Written.{row_behind, row_in_rows}
use Rattle.ot_show_graph.proofs.label.enter.Given as goal

abbrev pub invariant-loop-used : goal.invariant-loop-used
invariant-loop-used l =
    (c : Cell) → row_in_rows l.rows c ≡ row_behind l.child (uses_cell c (take l.used-index l.uses)) (writes_cell c (take l.used-index l.uses)) (row_in_rows l.initial.rows c)
