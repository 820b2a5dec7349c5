use Rattle.std.proofs.Common.{◌≡◌, ℕ, [], length, get_or}
use Rattle.ot_race_locks.specs.Kinds.{kind_row}
use Rattle.ot_race_locks.proofs.kept.Row.reach.Given as goal

abbrev pub invariant-loop : goal.invariant-loop
invariant-loop l = (length l.self.lines.items ≡ l.counter) × ((i : ℕ) → get_or (kind_row l.self) i [] ≡ get_or (kind_row l.fn.self) i [])
