use Rattle.std.proofs.Common.{◌≡◌, ◌==◌, drop, find}
use Rattle.std.specs.Option.{option_or}
use Rattle.ot_c_scope.specs.Layers.{opened_in}
use Rattle.ot_c_scope.proofs.layers.opening_in.Given as goal

-- what is found in those that are left comes before what is found so far
abbrev pub invariant-loop-layer : goal.invariant-loop-layer
invariant-loop-layer l = option_or (find (λ o. o.array == l.name) (opened_in (drop l.layer-index l.layers))) l.found ≡ find (λ o. o.array == l.name) (opened_in l.layers)
