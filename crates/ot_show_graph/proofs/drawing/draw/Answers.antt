use Rattle.ot_check.proofs.Cited.{if_ok}
use Rattle.ot_show_graph.specs.Drawn.{Draws, DrawsLast}
use Rattle.ot_show_graph.proofs.drawing.draw.Goals as goal

pub returns-in-Ok : goal.returns-in-Ok
returns-in-Ok g c =
    if_ok c.drawing_of.result (Draws c.in-Ok.last.spec c.in-Ok.last.arrays.items) (DrawsLast (g.R.Source.flow c.args.source.now).ahead (g.R.Source.flow c.last_run_in.new.source).ahead)
    (λ drawing drawn. record { last = c.in-Ok.last; found = c.in-Ok.ensures.finds; drawn = drawn }) c.drawing_of.ensures
