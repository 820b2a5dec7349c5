use denote.Param.Send.{IsSend, IsSync, sendable, param_sync, arg_sync}
use Rattle.std.proofs.Crossing.{crosses}
use Rattle.ot_model.proofs.expr.Expr.TheLaws.TheKnot.{send-Expr, sync-Expr}
use Rattle.ot_model.proofs.stmt.Stmt.TheLaws.TheKnot.{send-Stmt, sync-Stmt}
use Rattle.ot_parts.proofs.SendLemmas.{part-send, part-sync}
use Rattle.ot_check.specs.contracts.checked.Checked as checked
use Rattle.ot_check.specs.contracts.job.JobSpec as spec
use Rattle.ot_pool.proofs.SendLemmas.{pool-sync}
use Rattle.test_pool.specs.contracts.crowd.Known as known
use Rattle.test_pool.specs.contracts.crowd.Crowd as crowd
use Rattle.test_pool.proofs.crowd.Crowd.played.Goals as goal

checked-send : IsSend checked.the_row
checked-send = search (sendable, crosses, send-Expr, send-Stmt, part-send, part-sync) depth 80 fits 20000

checked-sync : IsSync checked.the_row
checked-sync = search (sendable, crosses, sync-Expr, sync-Stmt, part-send, part-sync) depth 80 fits 20000

spec-sync : IsSync spec.the_row
spec-sync = search (sendable, crosses, checked-send, checked-sync) depth 80 fits 20000

known-sync : IsSync known.the_row
known-sync = search (sendable, crosses, spec-sync) depth 80 fits 20000

crowd-sync : IsSync crowd.the_row
crowd-sync = search (sendable, crosses, known-sync) depth 80 fits 20000

-- a thread may borrow the pool
pub side_by_side-requires-sync-P : goal.side_by_side-requires-sync-P
side_by_side-requires-sync-P g c κs within = search (pool-sync, param_sync, arg_sync) depth 20

-- and the crowd
pub side_by_side-requires-sync-C : goal.side_by_side-requires-sync-C
side_by_side-requires-sync-C g c κs within = search (crowd-sync, param_sync, arg_sync) depth 20
