use Rattle.std.proofs.Common.{◌≡◌, ℕ, take, All}
use Rattle.ot_depend.specs.Groups.{count_of, IsCounted}
use Rattle.ot_depend.proofs.groups.Groups.make_room.Given as goal

abbrev pub invariant-loop-group : goal.invariant-loop-group
invariant-loop-group l = record {
  same : (g : ℕ) → count_of l.self g ≡ count_of l.initial.self g;
  made : All (IsCounted l.self) (take l.group-index l.groups);
}
