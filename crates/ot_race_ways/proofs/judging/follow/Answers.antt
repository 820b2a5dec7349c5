use Rattle.std.proofs.Common.{arith}
use Rattle.ot_model.specs.View.{stmts_of}
use Rattle.ot_model.proofs.CountsLemmas.{tasks_in-≤-size}
use Rattle.ot_race_ways.proofs.judging.follow.Goals as goal

pub follow_all-requires-clause-tasks_fit : goal.follow_all-requires-clause-tasks_fit
follow_all-requires-clause-tasks_fit c =
    let p = c.args.program.now in
    omega (arith, tasks_in-≤-size (stmts_of p.body.items), p.statements_are, p.few)
