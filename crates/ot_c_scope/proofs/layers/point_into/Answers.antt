use Rattle.std.proofs.Common.{◌+◌, true, false, drop, sym, ◌∙◌, ap}
use Rattle.std.specs.List.{list_any}
use Rattle.ot_c_scope.specs.Layers.{opened_in}
use Rattle.ot_c_scope.specs.Scopes.{points_into}
use Rattle.ot_c_scope.proofs.LayerLemmas.{or_true, or_false, points_left}
use Rattle.ot_c_scope.proofs.layers.point_into.Goals as goal

pub returns-then-point_into : goal.returns-then-point_into
returns-then-point_into c =
    let into = list_any (λ o. points_into c.args.array c.args.cells o.pointee) in
    sym (or_true (into (opened_in (drop (c.loop-layer.layer-index + 1) c.args.layers.now))))
    ∙ points_left c.args.layers.now c.loop-layer.layer-index c.layer-item.result c.loop-layer-test.true c.layer-item.is c.args.array c.args.cells true (into (opened_in c.args.layers.now))
    (sym c.if-point_into.true ∙ c.point_into.ensures ∙ ap (λ f. into f.openings) c.deref.ensures) c.loop-layer.invariant

pub loop-layer-preserved : goal.loop-layer-preserved
loop-layer-preserved c =
    let into = list_any (λ o. points_into c.args.array c.args.cells o.pointee) in
    sym (or_false (into (opened_in (drop (c.loop-layer.layer-index + 1) c.args.layers.now))))
    ∙ points_left c.args.layers.now c.loop-layer.layer-index c.layer-item.result c.loop-layer-test.true c.layer-item.is c.args.array c.args.cells false (into (opened_in c.args.layers.now))
    (sym c.if-point_into.false ∙ c.point_into.ensures ∙ ap (λ f. into f.openings) c.deref.ensures) c.loop-layer.invariant
