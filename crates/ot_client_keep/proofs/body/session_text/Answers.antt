use Rattle.std.proofs.Common.{ap₂}
use Rattle.ot_client_keep.proofs.BodyLemmas.{makes_next}
use Rattle.ot_client_keep.proofs.body.session_text.Goals as goal

pub loop-array-preserved : goal.loop-array-preserved
loop-array-preserved c =
    let made = c.in_ok-text.ensures in
    makes_next c.args.arrays.now c.loop-array.array-index c.array-item.result (c.as_str.result.now, c.as_slice.result.now) _ made.0 _ c.loop-array.invariant made.1
    (ap₂ (λ name cells. (name, cells)) c.as_str.ensures.value c.as_slice.ensures.value) made.2 c.loop-array-test.true c.array-item.is
