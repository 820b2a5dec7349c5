use Rattle.std.proofs.Common.{◌≡◌, ◌==◌, drop}
use Rattle.std.specs.Prelude.{find}
use Rattle.ot_c_scope.proofs.scope.turn_among.Given as goal

-- those that are left decide
abbrev pub invariant-loop-turn : goal.invariant-loop-turn
invariant-loop-turn l = find (λ t. t.variable == l.name) (drop l.turn-index l.turns) ≡ find (λ t. t.variable == l.name) l.turns
