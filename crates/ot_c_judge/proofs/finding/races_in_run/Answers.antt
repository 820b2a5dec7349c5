use Rattle.std.proofs.Common.{subst}
use Rattle.ot_model.specs.View.{stmts_of}
use Rattle.ot_race_order.specs.Orders.{ordered_by}
use Rattle.ot_c_judge.specs.Findings.{events_by}
use Rattle.ot_race_all.specs.AllRaces.{TellsAll}
use Rattle.ot_c_judge.proofs.finding.races_in_run.Goals as goal

pub returns : goal.returns
returns c =
    let es = events_by c.args.order (stmts_of c.args.program.now.body.items) c.args.cells in
    c.some_of.ensures es (subst (λ events. TellsAll (ordered_by c.args.order events) 20 c.in_ok-races.races) c.in_ok-events.ensures.events c.in_ok-races.ensures)
