use Rattle.std.proofs.Common.{◌≤◌, length, subst}
use Rattle.ot_show_graph.specs.declared.rows.Shelf.{Shelf}
use Rattle.ot_show_graph.specs.Written.{cells_with, row_on_shelf, row_in_rows}
use Rattle.ot_show_graph.proofs.RowLemmas.{said_none}
use Rattle.ot_show_graph.proofs.LabelLemmas.{put_none}
use Rattle.ot_show_graph.proofs.rows.Rows.put.Goals as goal

pub returns-in-None : goal.returns-in-None
returns-in-None c = λ e.
    let place = c.args.used.cell.array in
    put_none e c.args.used.mode c.args.used.cell (row_in_rows c.args.self.now c.args.used.cell) (cells_with c.args.met.now e)
    (said_none (λ (s : Shelf). row_on_shelf s c.args.used.cell.index) c.args.self.now.shelves.items place (subst (λ xs. length xs ≤ place) c.deref.ensures.value c.in-None.ensures.lookup.3))
