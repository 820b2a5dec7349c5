-- Laws of ways.
use Rattle.std.specs.Prelude.{◌≡◌, ℕ, List, true}
use Rattle.ot_model.specs.Tree.{Body, val}
use Rattle.ot_model.specs.Cells.{cell_of, lengths}
use Rattle.ot_model.specs.Names.{NamedIn}
use Rattle.ot_model.specs.declared.expr.Cell.{Cell}
use Rattle.ot_race_order.specs.Orders.{ordered_by}
use Rattle.ot_race_order.specs.declared.order.Order.{Order}
use Rattle.ot_race.specs.Events.{events_of, this_way}
use Rattle.ot_race.specs.Races.{IsRace, NothingRaces}
use Rattle.ot_race_ways.specs.Straight.{is_straight}
use Rattle.ot_race_ways.specs.Verdicts.{NoWayRaces}
use Rattle.ot_race_ways.specs.Ways.{way_by}

-- what races in a run races on the way whose conditions have the values of that run, whatever orders tasks
abbrev pub RunsAreWays : Type 0
RunsAreWays =
    (order : Order) (body : Body) (cells : List (List ℕ)) → NamedIn (lengths cells) body → (cell : Cell) (i j : ℕ)
    → IsRace (ordered_by order (events_of this_way body cells)) cell i j
    → IsRace (ordered_by order (events_of (way_by (λ s e. val (cell_of s.cells) e)) body cells)) cell i j

-- where nothing races in the run of a straight body from some cells, no way races, from any: they do what the run does
abbrev pub StraightWaysAreRuns : Type 0
StraightWaysAreRuns =
    (order : Order) (body : Body) (cells : List (List ℕ)) → is_straight body ≡ true
    → NothingRaces (ordered_by order (events_of this_way body cells)) → NoWayRaces order body
