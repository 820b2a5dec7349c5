use Rattle.std.proofs.Common.{◌≡◌, ℕ, ◌-◌, true}
use Rattle.std.specs.Prelude.{◌⊎◌, ◌↔◌}
use Rattle.ot_sets.specs.Sets.{has}
use Rattle.ot_race.specs.Standings.{IsWhole, IsOfListed}
use Rattle.ot_race.proofs.standing.join_listed.Given as goal

-- the tasks behind the place are in
abbrev pub invariant-loop-passed : goal.invariant-loop-passed
invariant-loop-passed l =
    record {
      whole : IsWhole l.tasks l.known;
      joined : (i : ℕ) → (has l.known i ≡ true) ↔ ((has l.initial.known i ≡ true) ⊎ IsOfListed l.tasks l.listed (l.count - l.passed) i);
    }
