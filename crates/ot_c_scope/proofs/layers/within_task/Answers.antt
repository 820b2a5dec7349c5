use Rattle.std.proofs.Common.{◌++◌, ◌∙◌, ap, map, ◌+◌, drop}
use Rattle.ot_c_scope.specs.Layers.{opened_in, portions_in}
use Rattle.ot_c_scope.specs.Scopes.{not_own}
use Rattle.ot_c_scope.proofs.LayerLemmas.{portions_next, below_next}
use Rattle.ot_c_scope.proofs.layers.within_task.Goals as goal

pub loop-layer-preserved : goal.loop-layer-preserved
loop-layer-preserved c =
    let l = c.loop-layer in
    let ls = c.args.layers.now in
    let rest = drop (l.layer-index + 1) ls in
    let k = c.in_ok-shared.field-0 in (
      ap (λ items. map not_own (opened_in rest) ++ opened_in items) c.in_ok-push.ensures.items
          ∙ below_next ls l.layer-index c.layer-item.result c.loop-layer-test.true c.layer-item.is k c.in_ok-shared.ensures.frame l.inner.items c.in_ok-shared.ensures.own (map not_own (opened_in c.args.layers.now)) l.invariant.0,
      ap (λ items. portions_in items ++ portions_in rest) c.in_ok-push.ensures.items
          ∙ portions_next ls l.layer-index c.layer-item.result c.loop-layer-test.true c.layer-item.is k c.in_ok-shared.ensures.frame l.inner.items (portions_in ls) l.invariant.1,
    )
