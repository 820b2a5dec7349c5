use Rattle.std.proofs.Common.{◌≡◌, ◌==◌, drop}
use Rattle.std.specs.Prelude.{find, is_some}
use Rattle.std.specs.List.{list_any}
use Rattle.ot_c_scope.proofs.scope.any_hides.Given as goal

-- those that are left decide
abbrev pub invariant-loop-turn : goal.invariant-loop-turn
invariant-loop-turn l = list_any (λ t. is_some (find (λ u. u.variable == t.variable) l.outer)) (drop l.turn-index l.inner) ≡ list_any (λ t. is_some (find (λ u. u.variable == t.variable) l.outer)) l.inner
