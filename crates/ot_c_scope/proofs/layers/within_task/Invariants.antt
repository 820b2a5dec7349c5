use Rattle.std.proofs.Common.{◌≡◌, ◌++◌, drop, map}
use Rattle.ot_c_scope.specs.Layers.{opened_in, portions_in}
use Rattle.ot_c_scope.specs.Scopes.{not_own}
use Rattle.ot_c_scope.proofs.layers.within_task.Given as goal

-- those that are left follow
abbrev pub invariant-loop-layer : goal.invariant-loop-layer
invariant-loop-layer l =
    (map not_own (opened_in (drop l.layer-index l.layers)) ++ opened_in l.inner.items ≡ map not_own (opened_in l.layers))
    × (portions_in l.inner.items ++ portions_in (drop l.layer-index l.layers) ≡ portions_in l.layers)
