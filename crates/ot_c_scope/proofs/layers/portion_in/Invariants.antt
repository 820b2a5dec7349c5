use Rattle.std.proofs.Common.{◌≡◌, ◌==◌, drop, find}
use Rattle.ot_c_scope.specs.Layers.{portions_in}
use Rattle.ot_c_scope.proofs.layers.portion_in.Given as goal

-- those that are left decide
abbrev pub invariant-loop-layer : goal.invariant-loop-layer
invariant-loop-layer l = find (λ p. p.array == l.array) (portions_in (drop l.layer-index l.layers)) ≡ find (λ p. p.array == l.array) (portions_in l.layers)
