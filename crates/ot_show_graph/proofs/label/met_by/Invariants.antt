use Rattle.std.proofs.Common.{List, take}
use Rattle.ot_model.specs.declared.stmt.Use.{Use}
use Rattle.ot_show_graph.specs.Written.{AreMet, TellsRows, row_in_rows}
use Rattle.ot_show_graph.proofs.label.met_by.Given as goal

abbrev pub invariant-loop-used : goal.invariant-loop-used
invariant-loop-used l = (before : List (List Use)) → TellsRows before (row_in_rows l.rows) → AreMet before (take l.used-index l.uses) l.met
