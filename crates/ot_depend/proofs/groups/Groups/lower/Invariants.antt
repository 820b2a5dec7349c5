use Rattle.std.proofs.Common.{◌≡◌, ◌+◌, ◌==◌, ℕ, cond, take}
use Rattle.std.specs.List.{list_any}
use Rattle.ot_depend.specs.Groups.{count_of}
use Rattle.ot_depend.proofs.groups.Groups.lower.Given as goal

abbrev pub invariant-loop-i : goal.invariant-loop-i
invariant-loop-i l = (g : ℕ) → count_of l.self g + cond (list_any (λ x. x == g) (take l.i l.groups)) 1 0 ≡ count_of l.initial.self g
