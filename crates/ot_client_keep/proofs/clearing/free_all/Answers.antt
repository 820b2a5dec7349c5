use Rattle.std.proofs.Common.{[], ◌∷◌, ap}
use Rattle.ot_client_ask.specs.Streams.{link}
use Rattle.ot_model.specs.Programs.{arrays_of}
use Rattle.ot_client_keep.specs.Questions.{Question, Arrays, Checkpoint}
use Rattle.ot_client_keep.specs.Files.{Reply, Listed, Taken}
use Rattle.ot_client_keep.proofs.KeepLemmas.{frees_all, stops_later, stops_now, talks_one, talks_two}
use Rattle.ot_client_keep.proofs.clearing.free_all.Goals as goal

pub returns-in-Err : goal.returns-in-Err
returns-in-Err g c =
    stops_now (link (g.H.LineSource.coming c.args.heard.now) (g.W.Sink.draft c.args.wire.now)) (link (g.H.LineSource.coming c.ask_checkpoint.new.heard) (g.W.Sink.draft c.ask_checkpoint.new.wire)) Checkpoint c.in-Err.fault c.in-Err.ensures

pub returns-in-Err-ask_arrays : goal.returns-in-Err-ask_arrays
returns-in-Err-ask_arrays g c =
    let start = link (g.H.LineSource.coming c.args.heard.now) (g.W.Sink.draft c.args.wire.now) in
    let begun = link (g.H.LineSource.coming c.ask_checkpoint.new.heard) (g.W.Sink.draft c.ask_checkpoint.new.wire) in
    let new = link (g.H.LineSource.coming c.ask_arrays.new.heard) (g.W.Sink.draft c.ask_arrays.new.wire) in
    let turn : Question × Reply = (Checkpoint, Taken c.in-Ok.field-0) in
    stops_later start begun new (turn ∷ []) c.in-Err-ask_arrays.fault (talks_one start begun turn c.in-Ok.ensures)
    (stops_now begun new Arrays c.in-Err-ask_arrays.fault c.in-Err-ask_arrays.ensures)

pub returns : goal.returns
returns g c =
    let start = link (g.H.LineSource.coming c.args.heard.now) (g.W.Sink.draft c.args.wire.now) in
    let begun = link (g.H.LineSource.coming c.ask_checkpoint.new.heard) (g.W.Sink.draft c.ask_checkpoint.new.wire) in
    let told = link (g.H.LineSource.coming c.ask_arrays.new.heard) (g.W.Sink.draft c.ask_arrays.new.wire) in
    let new = link (g.H.LineSource.coming c.free_each.new.heard) (g.W.Sink.draft c.free_each.new.wire) in
    let turn : Question × Reply = (Checkpoint, Taken c.in-Ok.field-0) in
    let list : Question × Reply = (Arrays, Listed (arrays_of c.in-Ok-ask_arrays.found.items)) in
    frees_all start told new c.in-Ok.field-0 (arrays_of c.in-Ok-ask_arrays.found.items) (arrays_of c.as_slice.result.now) c.free_each.result
    (talks_two start begun told turn list c.in-Ok.ensures c.in-Ok-ask_arrays.ensures) (ap arrays_of c.as_slice.ensures.value) c.free_each.ensures
