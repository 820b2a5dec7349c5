use Rattle.std.proofs.Common.{subst}
use Rattle.std.proofs.lemmas.List.{take_all}
use Rattle.ot_show_graph.specs.Written.{AreMet, row_in_rows}
use Rattle.ot_show_graph.proofs.LabelLemmas.{nowhere, met_more}
use Rattle.ot_show_graph.proofs.label.met_by.Goals as goal

pub loop-used-preserved : goal.loop-used-preserved
loop-used-preserved c = λ before tells.
    met_more before (row_in_rows c.args.rows.now) c.args.uses.now c.loop-used.used-index nowhere c.loop-used.met c.put.new.met tells c.loop-used-test.true
    (c.loop-used.invariant before tells) c.in_ok-put.ensures

pub returns : goal.returns
returns c = λ before tells.
    subst (λ uses. AreMet before uses c.loop-used.met) (take_all c.loop-used.used-index c.args.uses.now c.loop-used-test.false) (c.loop-used.invariant before tells)
