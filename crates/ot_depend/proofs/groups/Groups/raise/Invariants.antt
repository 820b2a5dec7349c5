use Rattle.std.proofs.Common.{◌≡◌, ◌+◌, ◌==◌, ℕ, cond, take, All}
use Rattle.std.specs.List.{list_any}
use Rattle.ot_depend.specs.Groups.{count_of, IsCounted}
use Rattle.ot_depend.proofs.groups.Groups.raise.Given as goal

abbrev pub invariant-loop-i : goal.invariant-loop-i
invariant-loop-i l = record {
  raised : (g : ℕ) → count_of l.self g ≡ count_of l.initial.self g + cond (list_any (λ x. x == g) (take l.i l.groups)) 1 0;
  made : All (IsCounted l.self) l.groups;
}
