use Rattle.ot_show_graph.specs.Written.{row_in_rows}
use Rattle.ot_show_graph.proofs.LabelLemmas.{nowhere, enter_more}
use Rattle.ot_show_graph.proofs.label.enter.Goals as goal

pub loop-used-preserved : goal.loop-used-preserved
loop-used-preserved c =
    enter_more c.args.child c.args.uses.now c.loop-used.used-index nowhere (row_in_rows c.args.rows.now) (row_in_rows c.loop-used.rows) (row_in_rows c.enter.new.self)
    c.requires c.loop-used-test.true c.loop-used.invariant c.in_ok-enter.ensures.there c.in_ok-enter.ensures.others
