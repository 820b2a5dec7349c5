use Rattle.std.proofs.Common.{◌==◌, find}
use Rattle.ot_c_scope.specs.Layers.{opened_in}
use Rattle.ot_c_scope.proofs.LayerLemmas.{found_next}
use Rattle.ot_c_scope.proofs.layers.opening_in.Goals as goal

pub loop-layer-preserved : goal.loop-layer-preserved
loop-layer-preserved c =
    found_next c.args.layers.now c.loop-layer.layer-index c.layer-item.result c.loop-layer-test.true c.layer-item.is c.args.name c.opening.result c.loop-layer.found c.inner_or-found.result
    (find (λ o. o.array == c.args.name) (opened_in c.args.layers.now)) c.opening.ensures c.inner_or-found.ensures c.loop-layer.invariant
