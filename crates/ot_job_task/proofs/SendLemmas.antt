-- Tasks may go from thread to thread.
use denote.Param.Send.{IsSend, sendable}
use denote.Param.SendFields.{declared_send}
use Rattle.std.proofs.Crossing.{crosses}
use Rattle.ot_depend.proofs.siblings.Siblings.TheSendSync as siblings
use Rattle.ot_model.proofs.expr.Expr.TheLaws.TheKnot.{send-Expr, sync-Expr}
use Rattle.ot_parts.proofs.SendLemmas.{rest-send}
use Rattle.ot_job_task.specs.contracts.place.Place as place
use Rattle.ot_job_task.specs.contracts.running.Running as running
use Rattle.ot_job_task.specs.contracts.waiting.Waiting as waiting
use Rattle.ot_job_task.specs.contracts.task.Task as task
use Rattle.ot_job_task.specs.contracts.task.Task.TheInside as inside

place-send : IsSend place.the_row
place-send = search (sendable, crosses, rest-send) depth 80 fits 20000

running-send : IsSend running.the_row
running-send = search (sendable, crosses, send-Expr, sync-Expr) depth 80 fits 20000

waiting-send : IsSend waiting.the_row
waiting-send = search (sendable, crosses) depth 80 fits 20000

inside-send : IsSend inside.the_row
inside-send = declared_send inside.the_type (search (sendable, crosses) depth 80 fits 20000, (search (sendable, crosses) depth 80 fits 20000, (search (sendable, crosses) depth 80 fits 20000, (search (sendable, crosses, place-send) depth 80 fits 20000, (search (siblings.the_send, sendable, crosses) depth 80, (search (sendable, crosses, waiting-send) depth 80 fits 20000, (search (sendable, crosses) depth 80 fits 20000, (search (sendable, crosses, running-send) depth 80 fits 20000, tt))))))))

pub task-send : IsSend task.the_row
task-send = record { owned = λ d vs x. (inside-send.owned x.0 vs, tt); leaving = λ k d w. tt }
