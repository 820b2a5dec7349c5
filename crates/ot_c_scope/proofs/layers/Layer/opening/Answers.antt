use Rattle.ot_c_scope.proofs.LayerLemmas.{opening_below}
use Rattle.ot_c_scope.proofs.layers.Layer.opening.Goals as goal

pub returns-else-self : goal.returns-else-self
returns-else-self c =
    opening_below c.args.self.now c.args.name c.deref.result.now c.of-opening.result c.none_own.result c.deref.ensures c.of-opening.ensures c.none_own.ensures c.if-self.false
