use Rattle.ot_show_graph.specs.Written.{cells_with}
use Rattle.ot_show_graph.proofs.LabelLemmas.{put_more}
use Rattle.ot_show_graph.proofs.met.put_all.Goals as goal

pub loop-child-preserved : goal.loop-child-preserved
loop-child-preserved c = λ e.
    put_more c.args.cell c.args.children.now c.loop-child.child-index 0 e (cells_with c.args.met.now e) (cells_with c.loop-child.met e) (cells_with c.put_cell.new.met e)
    c.loop-child-test.true (c.loop-child.invariant e) (c.in_ok-put_cell.ensures e)
