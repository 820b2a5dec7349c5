use Rattle.std.proofs.Common.{[], ◌+◌, ◌≤◌}
use Rattle.ot_race.specs.Stands.{Stands}
use Rattle.ot_race.specs.View.{events_in}
use Rattle.ot_race_all.specs.AllRaces.{pairs_within}
use Rattle.ot_race_all.specs.Found.{AreTouches, HasCounts, IsFound}
use Rattle.ot_race_all.proofs.listing.found_from.Given as goal

-- what is kept is that of the events so far, and their races are found
abbrev pub invariant-loop-number : goal.invariant-loop-number
invariant-loop-number l =
    record {
      stands : Stands (events_in l.events) l.number l.standings;
      touches : AreTouches (events_in l.events) l.number [] l.touched.rows.items;
      counts : HasCounts (events_in l.events) l.number l.touched.rows.items;
      left : 100000000 ≤ l.left + pairs_within (events_in l.events) l.number;
      found : IsFound (events_in l.events) l.number l.found;
    }
