use Rattle.std.proofs.Common.{◌≡◌, ℕ, [], length, get_or}
use Rattle.ot_race_all.specs.Found.{row_of_touches}
use Rattle.ot_race_all.proofs.touched.Row.reach.Given as goal

abbrev pub invariant-loop : goal.invariant-loop
invariant-loop l = (length l.self.cells.items ≡ l.counter) × ((i : ℕ) → get_or (row_of_touches l.self) i [] ≡ get_or (row_of_touches l.fn.self) i [])
