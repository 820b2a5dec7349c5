use Rattle.std.proofs.Common.{◌≡◌, ℕ, length, get_or}
use Rattle.ot_race.specs.Histories.{row_of, no_phases}
use Rattle.ot_race.proofs.histories.Row.reach.Given as goal

abbrev pub invariant-loop : goal.invariant-loop
invariant-loop l = (length l.self.histories.items ≡ l.counter) × ((i : ℕ) → get_or (row_of l.self) i no_phases ≡ get_or (row_of l.fn.self) i no_phases)
