use Rattle.std.proofs.Common.{◌≡◌, ◌++◌, drop, map}
use Rattle.ot_c_program.proofs.statements.taking_of.Given as goal

-- those that are left follow
abbrev pub invariant-loop-way : goal.invariant-loop-way
invariant-loop-way l = l.taking.items ++ map (λ t. (l.left, t)) (drop l.way-index l.own) ≡ map (λ t. (l.left, t)) l.own
