use Rattle.ot_client_ask.specs.Streams.{link}
use Rattle.ot_client_keep.proofs.KeepLemmas.{listed_more, stops_later, turns_more}
use Rattle.ot_client_keep.proofs.tenant.read_each.Goals as goal

pub loop-shape-preserved : goal.loop-shape-preserved
loop-shape-preserved g c =
    let so_far = c.loop-shape.invariant in (
      turns_more (link (g.H.LineSource.coming c.args.heard.now) (g.W.Sink.draft c.args.wire.now)) (link (g.H.LineSource.coming c.loop-shape.heard) (g.W.Sink.draft c.loop-shape.wire)) (link (g.H.LineSource.coming c.read_array.new.heard) (g.W.Sink.draft c.read_array.new.wire)) c.loop-shape.arrays.items c.in-Ok.array c.push.new.self.items so_far.0 c.in-Ok.ensures.1 c.in-Ok-push.ensures.items,
      listed_more c.args.shapes.now c.loop-shape.shape-index c.shape-item.result c.loop-shape.arrays.items c.in-Ok.array c.push.new.self.items so_far.1 c.in-Ok.ensures.0
          c.in-Ok-push.ensures.items c.loop-shape-test.true c.shape-item.is,
    )

pub returns-in-Err : goal.returns-in-Err
returns-in-Err g c = stops_later (link (g.H.LineSource.coming c.args.heard.now) (g.W.Sink.draft c.args.wire.now)) (link (g.H.LineSource.coming c.loop-shape.heard) (g.W.Sink.draft c.loop-shape.wire)) (link (g.H.LineSource.coming c.read_array.new.heard) (g.W.Sink.draft c.read_array.new.wire)) _ c.in-Err.fault c.loop-shape.invariant.0 c.in-Err.ensures
