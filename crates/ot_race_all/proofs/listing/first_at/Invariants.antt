use Rattle.std.proofs.Common.{ℕ, ◌≤◌}
use Rattle.ot_race.specs.Races.{IsAt}
use Rattle.ot_race.specs.View.{events_in}
use Rattle.ot_race_all.proofs.listing.first_at.Given as goal

-- none of the events so far is of the place
abbrev pub invariant-loop-number : goal.invariant-loop-number
invariant-loop-number l = (j : ℕ) → IsAt (events_in l.events) l.place j → l.number ≤ j
