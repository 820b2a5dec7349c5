use Rattle.std.proofs.Common.{◌≡◌, ◌++◌, drop}
use Rattle.ot_c_scope.specs.Layers.{opened_in, portions_in}
use Rattle.ot_c_scope.proofs.layers.shared.Given as goal

-- those that are left follow
abbrev pub invariant-loop-layer : goal.invariant-loop-layer
invariant-loop-layer l =
    (opened_in (drop l.layer-index l.layers) ++ opened_in l.same.items ≡ opened_in l.layers)
    × (portions_in l.same.items ++ portions_in (drop l.layer-index l.layers) ≡ portions_in l.layers)
