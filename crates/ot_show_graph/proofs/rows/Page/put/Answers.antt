use Rattle.std.proofs.Common.{◌≤◌, ◌%◌, length, subst}
use Rattle.ot_show_graph.specs.Written.{cells_with, row_seen, entry_on}
use Rattle.ot_show_graph.proofs.RowLemmas.{said_none}
use Rattle.ot_show_graph.proofs.LabelLemmas.{put_none}
use Rattle.ot_show_graph.proofs.rows.Page.put.Goals as goal

pub returns-in-None : goal.returns-in-None
returns-in-None c = λ e.
    let place = c.args.used.cell.index % 32 in
    put_none e c.args.used.mode c.args.used.cell (entry_on c.args.self.now (c.args.used.cell.index % 32)) (cells_with c.args.met.now e)
    (said_none row_seen c.args.self.now.rows.items place (subst (λ xs. length xs ≤ place) c.deref.ensures.value c.in-None.ensures.lookup.3))
