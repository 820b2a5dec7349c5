use Rattle.std.proofs.Common.{◌≡◌, arith}
use Rattle.std.proofs.lemmas.List.Elements.{All-pop}
use Rattle.ot_pool.proofs.SendLemmas.{pool-sync}
use denote.Param.Send.{param_sync, arg_sync}
use Rattle.ot_pool.proofs.crew.start.Goals as goal

pub start_one-requires-sync-P : goal.start_one-requires-sync-P
start_one-requires-sync-P g c κs within = search (pool-sync, param_sync, arg_sync) depth 20

pub loop-share-preserved-in-Some-start_one : goal.loop-share-preserved-in-Some-start_one
loop-share-preserved-in-Some-start_one g c =
    let rest = All-pop (λ s. s.parts ≡ 1) _ _ _ c.pop.ensures.items c.loop-share.invariant.1 in
    (omega (arith, c.in-Some.ensures.len), rest.0, omega (arith, c.in-Some.ensures.len, c.push_reserved.ensures.len), omega (arith, c.push_reserved.ensures.capacity))
