use Rattle.ot_show_graph.proofs.LabelLemmas.{waits_at_cells}
use Rattle.ot_show_graph.proofs.laws.waits_at_cells.Goals as goal

pub returns : goal.returns
returns c = waits_at_cells
