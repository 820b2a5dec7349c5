use Rattle.std.proofs.Common.{take}
use Rattle.ot_model.specs.Programs.{arrays_of}
use Rattle.ot_client_ask.specs.Streams.{link}
use Rattle.ot_client_keep.specs.Saving.{AreFreed}
use Rattle.ot_client_keep.proofs.clearing.free_each.Given as goal

-- the arrays so far are freed
abbrev pub invariant-loop-shape : goal.invariant-loop-shape
invariant-loop-shape g l =
    AreFreed (arrays_of (take l.shape-index l.shapes))
    (link (g.H.LineSource.coming l.fn.heard) (g.W.Sink.draft l.fn.wire))
    (link (g.H.LineSource.coming l.heard) (g.W.Sink.draft l.wire))
