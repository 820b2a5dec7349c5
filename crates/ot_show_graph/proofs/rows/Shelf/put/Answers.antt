use Rattle.std.proofs.Common.{◌≤◌, ◌/◌, ◌%◌, length, subst}
use Rattle.ot_show_graph.specs.declared.rows.Page.{Page}
use Rattle.ot_show_graph.specs.Written.{cells_with, row_on_shelf, entry_on}
use Rattle.ot_show_graph.proofs.RowLemmas.{said_none}
use Rattle.ot_show_graph.proofs.LabelLemmas.{put_none}
use Rattle.ot_show_graph.proofs.rows.Shelf.put.Goals as goal

pub returns-in-None : goal.returns-in-None
returns-in-None c = λ e.
    let place = c.args.used.cell.index / 32 in
    put_none e c.args.used.mode c.args.used.cell (row_on_shelf c.args.self.now c.args.used.cell.index) (cells_with c.args.met.now e)
    (said_none (λ (p : Page). entry_on p (c.args.used.cell.index % 32)) c.args.self.now.pages.items place (subst (λ xs. length xs ≤ place) c.deref.ensures.value c.in-None.ensures.lookup.3))
