use Rattle.std.proofs.Common.{◌∙◌, [], ◌∷◌, ap, map}
use Rattle.std.proofs.lemmas.Result.{MatchResult-weaker}
use Rattle.ot_client_ask.specs.Streams.{link}
use Rattle.ot_model.specs.Programs.{arrays_of}
use Rattle.ot_client_keep.specs.Arrays.{named_by}
use Rattle.ot_client_keep.specs.Questions.{Arrays}
use Rattle.ot_client_keep.specs.Files.{Listed}
use Rattle.ot_client_keep.proofs.KeepLemmas.{all_told, stops_later, stops_now, talks_one}
use Rattle.ot_client_keep.proofs.tenant.read_arrays.Goals as goal

pub returns-in-Err : goal.returns-in-Err
returns-in-Err g c = stops_now (link (g.H.LineSource.coming c.args.heard.now) (g.W.Sink.draft c.args.wire.now)) (link (g.H.LineSource.coming c.ask_arrays.new.heard) (g.W.Sink.draft c.ask_arrays.new.wire)) Arrays c.in-Err.fault c.in-Err.ensures

pub returns : goal.returns
returns g c =
    let start = link (g.H.LineSource.coming c.args.heard.now) (g.W.Sink.draft c.args.wire.now) in
    let asked = link (g.H.LineSource.coming c.ask_arrays.new.heard) (g.W.Sink.draft c.ask_arrays.new.wire) in
    let new = link (g.H.LineSource.coming c.read_each.new.heard) (g.W.Sink.draft c.read_each.new.wire) in
    let shapes = arrays_of c.in-Ok.shapes.items in
    MatchResult-weaker c.read_each.result c.read_each.ensures
    (λ arrays told. all_told start asked new shapes (map named_by arrays.items) c.in-Ok.ensures told.0 (told.1 ∙ ap arrays_of c.as_slice.ensures.value))
    (λ fault stops. stops_later start asked new ((Arrays, Listed shapes) ∷ []) fault (talks_one start asked (Arrays, Listed shapes) c.in-Ok.ensures) stops)
