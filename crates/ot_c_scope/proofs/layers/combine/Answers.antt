use Rattle.std.proofs.Common.{◌+◌, true, false, drop, sym, ◌∙◌, ap}
use Rattle.ot_c_scope.specs.Layers.{opened_in}
use Rattle.ot_c_scope.specs.Scopes.{combines}
use Rattle.ot_c_scope.proofs.LayerLemmas.{or_true, or_false, combines_left}
use Rattle.ot_c_scope.proofs.layers.combine.Goals as goal

pub returns-then-are_some : goal.returns-then-are_some
returns-then-are_some c =
    sym (or_true (combines (opened_in (drop (c.loop-layer.layer-index + 1) c.args.layers.now))))
    ∙ combines_left c.args.layers.now c.loop-layer.layer-index c.layer-item.result c.loop-layer-test.true c.layer-item.is true (combines (opened_in c.args.layers.now))
    (sym c.if-are_some.true ∙ c.are_some.ensures ∙ ap (λ f. combines f.openings) c.deref.ensures) c.loop-layer.invariant

pub loop-layer-preserved : goal.loop-layer-preserved
loop-layer-preserved c =
    sym (or_false (combines (opened_in (drop (c.loop-layer.layer-index + 1) c.args.layers.now))))
    ∙ combines_left c.args.layers.now c.loop-layer.layer-index c.layer-item.result c.loop-layer-test.true c.layer-item.is false (combines (opened_in c.args.layers.now))
    (sym c.if-are_some.false ∙ c.are_some.ensures ∙ ap (λ f. combines f.openings) c.deref.ensures) c.loop-layer.invariant
