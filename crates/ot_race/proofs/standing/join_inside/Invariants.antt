use Rattle.std.proofs.Common.{◌≡◌, ℕ, ◌≤◌, true}
use Rattle.std.specs.Prelude.{◌⊎◌, ◌↔◌}
use Rattle.ot_sets.specs.Sets.{has}
use Rattle.ot_race.specs.Standings.{IsWhole, IsInside}
use Rattle.ot_race.specs.View.{events_in}
use Rattle.ot_race.proofs.standing.join_inside.Given as goal

-- the tasks with an event before the place are in
abbrev pub invariant-loop-inside : goal.invariant-loop-inside
invariant-loop-inside l =
    record {
      within : l.inside ≤ l.until;
      whole : IsWhole l.tasks l.known;
      joined : (i : ℕ) → (has l.known i ≡ true) ↔ ((has l.initial.known i ≡ true) ⊎ IsInside (events_in l.events) l.tasks l.from l.inside i);
    }
