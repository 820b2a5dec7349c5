-- Parts are shared by threads, and what is left of a body may go from thread to thread.
use denote.Param.Send.{IsSend, IsSync, sendable}
use denote.Param.SendFields.{declared_send}
use Rattle.std.proofs.Crossing.{crosses}
use Rattle.ot_model.proofs.expr.Expr.TheLaws.TheKnot.{send-Expr, sync-Expr}
use Rattle.ot_parts.proofs.part.Part.TheLaws.TheKnot.{both_send-Part, both_sync-Part}
use Rattle.ot_parts.specs.contracts.assigns.Assigns as assigns
use Rattle.ot_parts.specs.contracts.frames.Frame as frame
use Rattle.ot_parts.specs.contracts.frames.Frames as frames
use Rattle.ot_parts.specs.contracts.listed.Listed as listed
use Rattle.ot_parts.specs.contracts.part.Part as part
use Rattle.ot_parts.specs.contracts.rest.Rest as rest
use Rattle.ot_parts.specs.contracts.rest.Rest.TheInside as inside
use Rattle.ot_parts.specs.contracts.run.Run as run
use Rattle.ot_parts.specs.contracts.run.Tested as tested

listed-send : IsSend listed.the_row
listed-send = search (sendable, crosses, send-Expr) depth 80 fits 20000

listed-sync : IsSync listed.the_row
listed-sync = search (sendable, crosses, sync-Expr) depth 80 fits 20000

assigns-send : IsSend assigns.the_row
assigns-send = search (sendable, crosses, listed-send, listed-sync) depth 80 fits 20000

assigns-sync : IsSync assigns.the_row
assigns-sync = search (sendable, crosses, listed-send, listed-sync) depth 80 fits 20000

run-send : IsSend run.the_row
run-send = search (sendable, crosses, assigns-send) depth 80 fits 20000

run-sync : IsSync run.the_row
run-sync = search (sendable, crosses, assigns-sync) depth 80 fits 20000

tested-send : IsSend tested.the_row
tested-send = search (sendable, crosses, assigns-send, send-Expr) depth 80 fits 20000

tested-sync : IsSync tested.the_row
tested-sync = search (sendable, crosses, assigns-sync, sync-Expr) depth 80 fits 20000

pub part-send : IsSend part.the_row
part-send = search (sendable, crosses, both_send-Part, run-send, run-sync, tested-send, tested-sync) depth 80 fits 20000

pub part-sync : IsSync part.the_row
part-sync = search (sendable, crosses, both_sync-Part, run-send, run-sync, tested-send, tested-sync) depth 80 fits 20000

frame-send : IsSend frame.the_row
frame-send = search (sendable, crosses, part-send, part-sync) depth 80 fits 20000

frames-send : IsSend frames.the_row
frames-send =
    declared_send frames.the_type (search (sendable, crosses, frame-send) depth 80 fits 20000, (search (sendable, crosses, frame-send) depth 80 fits 20000, tt))

inside-send : IsSend inside.the_row
inside-send =
    declared_send inside.the_type (search (sendable, crosses, frames-send) depth 80 fits 20000, (search (sendable, crosses) depth 80 fits 20000, tt))

pub rest-send : IsSend rest.the_row
rest-send = record { owned = λ d vs x. (inside-send.owned x.0 vs, tt); leaving = λ k d w. tt }
