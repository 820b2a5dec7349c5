use Rattle.std.proofs.Common.{◌≡◌, drop}
use Rattle.std.specs.List.{list_any}
use Rattle.ot_c_scope.specs.Layers.{opened_in}
use Rattle.ot_c_scope.specs.Scopes.{points_into}
use Rattle.ot_c_scope.proofs.layers.point_into.Given as goal

-- those that are left decide
abbrev pub invariant-loop-layer : goal.invariant-loop-layer
invariant-loop-layer l = list_any (λ o. points_into l.array l.cells o.pointee) (opened_in (drop l.layer-index l.layers)) ≡ list_any (λ o. points_into l.array l.cells o.pointee) (opened_in l.layers)
