-- What a judge of all ways tells.
use Rattle.std.specs.Prelude.{◌≡◌, ◌≤◌, ◌*◌, ℕ, List}
use Rattle.ot_model.specs.Tree.{E, Body, size}
use Rattle.ot_model.specs.Serial.{State}
use Rattle.ot_race_order.specs.Orders.{ordered_by}
use Rattle.ot_race_order.specs.declared.order.Order.{Order}
use Rattle.ot_race.specs.Events.{events_of, beginning}
use Rattle.ot_race.specs.Races.{NothingRaces, IsFirstRace}
use Rattle.ot_race.specs.declared.race.Race.{Race}
use Rattle.ot_race_ways.specs.Naming.{named_in}
use Rattle.ot_race_ways.specs.Ways.{way_by, ways, turns}
use Rattle.ot_race_ways.specs.declared.verdict.Turn.{Turn}
use Rattle.ot_race_ways.specs.declared.verdict.Verdict.{Verdict}
use Rattle.ot_race_ways.specs.declared.verdict.Verdict.TheVariants.{RacesOnNoWay, RacesOnWay, TooManyWays}

-- on each way, whatever the cells that it begins with, any two touches that conflict are ordered, where this orders tasks
abbrev pub NoWayRaces : Order → Body → Type 0
NoWayRaces order body =
    (condition : State → E → ℕ) (cells : List (List ℕ)) → NothingRaces (ordered_by order (events_of (way_by condition) body cells))

-- a way from these cells takes these turns, and this is the first race on it
pub record IsRaceOn (order : Order) (body : Body) (taken : List Turn) (race : Race) (cells : List (List ℕ)) : Type 0 where
  pub condition : State → E → ℕ
  pub takes : turns (way_by condition) 1 body (beginning cells) ≡ taken
  pub first : IsFirstRace (ordered_by order (events_of (way_by condition) body cells)) race.cell race.place race.later

-- so many ways are judged, with so many statements on all of them together, which name so many cells
abbrev pub most_ways : ℕ
most_ways = 1024

abbrev pub most_statements : ℕ
most_statements = 2000000

abbrev pub most_cells : ℕ
most_cells = 20000000

abbrev pub AreFew : Body → Type 0
AreFew body = (ways body ≤ most_ways) × (ways body * size body ≤ most_statements) × (ways body * named_in body ≤ most_cells)

-- what a judge of all ways tells: that it would be too many ways, that no way races, or the first race on one of them
abbrev pub Tells : Order → Body → Verdict → Type 0
Tells order body TooManyWays = AreFew body → ⊥
Tells order body RacesOnNoWay = AreFew body × NoWayRaces order body
Tells order body (RacesOnWay taken race) = AreFew body × ((cells : List (List ℕ)) → IsRaceOn order body taken.items race cells)
