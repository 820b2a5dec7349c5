use Rattle.ot_client_ask.specs.Streams.{link}
use Rattle.ot_client_keep.specs.Questions.{Free}
use Rattle.ot_client_keep.proofs.KeepLemmas.{freed_more, freed_none, stops_later, stops_now}
use Rattle.ot_client_keep.proofs.clearing.free_each.Goals as goal

pub loop-shape-init : goal.loop-shape-init
loop-shape-init g c = freed_none (link (g.H.LineSource.coming c.args.heard.now) (g.W.Sink.draft c.args.wire.now))

pub loop-shape-preserved : goal.loop-shape-preserved
loop-shape-preserved g c =
    let start = link (g.H.LineSource.coming c.args.heard.now) (g.W.Sink.draft c.args.wire.now) in
    let now = link (g.H.LineSource.coming c.loop-shape.heard) (g.W.Sink.draft c.loop-shape.wire) in
    let new = link (g.H.LineSource.coming c.ask_free.new.heard) (g.W.Sink.draft c.ask_free.new.wire) in
    freed_more c.args.shapes.now c.loop-shape.shape-index c.shape-item.result c.as_str.result.now start now new c.in-Ok.field-0 c.loop-shape.invariant c.as_str.ensures.value c.in-Ok.ensures
    c.loop-shape-test.true c.shape-item.is

pub returns-in-Err : goal.returns-in-Err
returns-in-Err g c =
    let start = link (g.H.LineSource.coming c.args.heard.now) (g.W.Sink.draft c.args.wire.now) in
    let now = link (g.H.LineSource.coming c.loop-shape.heard) (g.W.Sink.draft c.loop-shape.wire) in
    let new = link (g.H.LineSource.coming c.ask_free.new.heard) (g.W.Sink.draft c.ask_free.new.wire) in
    stops_later start now new c.loop-shape.invariant.turns c.in-Err.fault c.loop-shape.invariant.talk
    (stops_now now new (Free c.as_str.result.now) c.in-Err.fault c.in-Err.ensures)
