use Rattle.std.proofs.Common.{◌++◌, ◌∙◌, ap, ◌+◌, drop}
use Rattle.ot_c_scope.specs.Layers.{opened_in, portions_in}
use Rattle.ot_c_scope.proofs.LayerLemmas.{portions_next, opened_next}
use Rattle.ot_c_scope.proofs.layers.shared.Goals as goal

pub loop-layer-preserved : goal.loop-layer-preserved
loop-layer-preserved c =
    let l = c.loop-layer in
    let ls = c.args.layers.now in
    let rest = drop (l.layer-index + 1) ls in
    let k = c.in_ok-shared.field-0 in (
      ap (λ items. opened_in rest ++ opened_in items) c.in_ok-push.ensures.items
          ∙ opened_next ls l.layer-index c.layer-item.result c.loop-layer-test.true c.layer-item.is k c.in_ok-shared.ensures.frame l.same.items c.in_ok-shared.ensures.own (opened_in c.args.layers.now) l.invariant.0,
      ap (λ items. portions_in items ++ portions_in rest) c.in_ok-push.ensures.items
          ∙ portions_next ls l.layer-index c.layer-item.result c.loop-layer-test.true c.layer-item.is k c.in_ok-shared.ensures.frame l.same.items (portions_in ls) l.invariant.1,
    )
