-- The live jobs may go from thread to thread.
use denote.RattleType.{RattleType}
use denote.Param.Send.{IsSend, IsSync, sendable}
use denote.Param.SendFields.{declared_send}
use Rattle.std.specs.declared.sync.ledger.Ledger.{Ghosts}
use Rattle.std.proofs.sync.ledger.Book.TheSendSync as ledger
use Rattle.std.proofs.Crossing.{crosses}
use Rattle.ot_model.proofs.expr.Expr.TheLaws.TheKnot.{send-Expr, sync-Expr}
use Rattle.ot_model.proofs.stmt.Stmt.TheLaws.TheKnot.{send-Stmt, sync-Stmt}
use Rattle.ot_parts.proofs.SendLemmas.{part-send, part-sync}
use Rattle.ot_check.specs.contracts.job.JobSpec as spec
use Rattle.ot_job_task.proofs.SendLemmas.{task-send}
use Rattle.ot_job.specs.contracts.job.Job as job
use Rattle.ot_hall.specs.contracts.hall.Hall as hall
use Rattle.ot_pool.specs.contracts.hub.Hub as hub
use Rattle.ot_pool.specs.contracts.pool.Pool as pool
use Rattle.ot_pool.specs.contracts.hub.Hub.TheInside as inside

spec-send : IsSend spec.the_row
spec-send = search (sendable, crosses, send-Expr, sync-Expr, send-Stmt, sync-Stmt, part-send, part-sync) depth 80 fits 20000

job-send : IsSend job.the_row
job-send = search (sendable, crosses, spec-send, task-send) depth 80 fits 20000

hall-send : IsSend hall.the_row
hall-send = search (sendable, crosses, job-send) depth 80 fits 20000

-- and so may the value under their lock
inside-send : (L : RattleType) (g : Ghosts L.Denot) → IsSend (inside.the_row L g)
inside-send L g =
    declared_send (inside.the_type L g) (hall-send, (search (sendable, crosses) depth 80, (search (sendable, crosses) depth 80, (ledger.the_send L g, (search (sendable, crosses) depth 80, tt)))))

pub hub-send : (L : RattleType) (g : Ghosts L.Denot) → IsSend (hub.the_row L g)
hub-send L g = record { owned = λ d vs x. ((inside-send L g).owned x.0 vs, tt); leaving = λ k d w. tt }

-- the pool may be shared
pub pool-sync : (L : RattleType) (g : Ghosts L.Denot) → IsSync (pool.the_row L g)
pool-sync L g = search (sendable, crosses, hub-send) depth 80 fits 20000
