use Rattle.std.proofs.Common.{◌≡◌, length}
use Rattle.ot_model.specs.declared.expr.Cell.{Cell}
use Rattle.ot_show_graph.specs.Written.{row_in_rows}
use Rattle.ot_show_graph.proofs.rows.Rows.reach.Given as goal

abbrev pub invariant-loop : goal.invariant-loop
invariant-loop l = (length l.self.shelves.items ≡ l.counter) × ((c : Cell) → row_in_rows l.self c ≡ row_in_rows l.fn.self c)
