use Rattle.std.proofs.Common.{◌≡◌, map, take}
use Rattle.ot_store.specs.Arrays.{arrays_listed}
use Rattle.ot_model.specs.Programs.{arrays_of}
use Rattle.ot_client_ask.specs.Streams.{link}
use Rattle.ot_client_keep.specs.Arrays.{named_by}
use Rattle.ot_client_keep.specs.Questions.{AsksInTurn, cells_turn}
use Rattle.ot_client_keep.proofs.tenant.read_each.Given as goal

-- the cells of the arrays so far are told
abbrev pub invariant-loop-shape : goal.invariant-loop-shape
invariant-loop-shape g l =
    AsksInTurn (link (g.H.LineSource.coming l.fn.heard) (g.W.Sink.draft l.fn.wire))
    (link (g.H.LineSource.coming l.heard) (g.W.Sink.draft l.wire))
    (map cells_turn (map named_by l.arrays.items))
    × (arrays_listed (map named_by l.arrays.items) ≡ arrays_of (take l.shape-index l.shapes))
