use Rattle.std.proofs.Common.{◌≡◌, drop}
use Rattle.ot_c_scope.specs.Layers.{opened_in}
use Rattle.ot_c_scope.specs.Scopes.{combines}
use Rattle.ot_c_scope.proofs.layers.combine.Given as goal

-- those that are left decide
abbrev pub invariant-loop-layer : goal.invariant-loop-layer
invariant-loop-layer l = combines (opened_in (drop l.layer-index l.layers)) ≡ combines (opened_in l.layers)
