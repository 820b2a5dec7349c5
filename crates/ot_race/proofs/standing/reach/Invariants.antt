use Rattle.std.proofs.Common.{◌≡◌, ℕ, length}
use Rattle.ot_race.specs.Standings.{kept_at}
use Rattle.ot_race.proofs.standing.reach.Given as goal

abbrev pub invariant-loop : goal.invariant-loop
invariant-loop l = (length l.tasks.items ≡ l.counter) × ((t : ℕ) → kept_at l.tasks.items t ≡ kept_at l.fn.tasks.items t)
