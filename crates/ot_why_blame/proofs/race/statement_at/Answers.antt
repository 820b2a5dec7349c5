use Rattle.ot_model.specs.View.{stmt_of, stmts_of}
use Rattle.ot_why_blame.specs.Walk.{pending_of}
use Rattle.ot_why_blame.proofs.WalkLemmas.{is_at_of}
use Rattle.ot_why_blame.proofs.race.statement_at.Goals as goal

pub returns-in-Err-clause-stands : goal.returns-in-Err-clause-stands
returns-in-Err-clause-stands c =
    is_at_of c.args.place (stmt_of c.in-Err.arrived.stmt.now) (pending_of c.in-Err.arrived.child) (stmts_of c.args.body.now.items) c.in-Err.ensures.arrives
