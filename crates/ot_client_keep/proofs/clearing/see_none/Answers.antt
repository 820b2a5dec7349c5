use Rattle.std.proofs.Common.{[], ◌∷◌}
use Rattle.ot_client_ask.specs.Streams.{link}
use Rattle.ot_model.specs.Programs.{arrays_of}
use Rattle.ot_client_keep.specs.Questions.{Question, Arrays, Checkpoint}
use Rattle.ot_client_keep.specs.Files.{Reply, Listed}
use Rattle.ot_client_keep.proofs.KeepLemmas.{sees_none_stop, stops_later, stops_now, talks_one}
use Rattle.ot_client_keep.proofs.clearing.see_none.Goals as goal

pub returns-in-Err : goal.returns-in-Err
returns-in-Err g c = sees_none_stop (link (g.H.LineSource.coming c.args.heard.now) (g.W.Sink.draft c.args.wire.now)) (link (g.H.LineSource.coming c.ask_arrays.new.heard) (g.W.Sink.draft c.ask_arrays.new.wire)) c.in-Err.fault (stops_now (link (g.H.LineSource.coming c.args.heard.now) (g.W.Sink.draft c.args.wire.now)) (link (g.H.LineSource.coming c.ask_arrays.new.heard) (g.W.Sink.draft c.ask_arrays.new.wire)) Arrays c.in-Err.fault c.in-Err.ensures)

pub returns : goal.returns
returns g c =
    let start = link (g.H.LineSource.coming c.args.heard.now) (g.W.Sink.draft c.args.wire.now) in
    let asked = link (g.H.LineSource.coming c.ask_arrays.new.heard) (g.W.Sink.draft c.ask_arrays.new.wire) in
    let new = link (g.H.LineSource.coming c.ask_checkpoint.new.heard) (g.W.Sink.draft c.ask_checkpoint.new.wire) in
    let turn : Question × Reply = (Arrays, Listed (arrays_of c.in-Ok.found.items)) in
    sees_none_stop start new c.in-Err-ask_checkpoint.fault
    (stops_later start asked new (turn ∷ []) c.in-Err-ask_checkpoint.fault (talks_one start asked turn c.in-Ok.ensures) (stops_now asked new Checkpoint c.in-Err-ask_checkpoint.fault c.in-Err-ask_checkpoint.ensures))
