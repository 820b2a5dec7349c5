use Rattle.std.proofs.Common.{◌==◌, find, Some, None, ◌∙◌, ap}
use Rattle.ot_c_scope.specs.Layers.{portions_in}
use Rattle.ot_c_scope.specs.Scopes.{extent_of}
use Rattle.ot_c_scope.proofs.LayerLemmas.{portion_left}
use Rattle.ot_c_scope.proofs.layers.portion_in.Goals as goal

pub returns-in-Some : goal.returns-in-Some
returns-in-Some c =
    portion_left c.args.layers.now c.loop-layer.layer-index c.layer-item.result c.loop-layer-test.true c.layer-item.is c.args.array (Some (extent_of c.in-Some.portion))
    (find (λ p. p.array == c.args.array) (portions_in c.args.layers.now)) (c.in-Some.ensures ∙ ap (λ f. find (λ p. p.array == c.args.array) f.portions) c.deref.ensures) c.loop-layer.invariant

pub loop-layer-preserved : goal.loop-layer-preserved
loop-layer-preserved c =
    portion_left c.args.layers.now c.loop-layer.layer-index c.layer-item.result c.loop-layer-test.true c.layer-item.is c.args.array None
    (find (λ p. p.array == c.args.array) (portions_in c.args.layers.now)) (c.in_default.ensures ∙ ap (λ f. find (λ p. p.array == c.args.array) f.portions) c.deref.ensures) c.loop-layer.invariant
