-- Laws of programs that a check accepts.
use Rattle.std.specs.Prelude.{◌≡◌, ℕ, List, true}
use Rattle.ot_model.specs.Tree.{Body}
use Rattle.ot_model.specs.Cells.{lengths}
use Rattle.ot_model.specs.Names.{NamedIn}
use Rattle.ot_check.specs.Discipline.{OffendsNowhere}
use Rattle.ot_race.specs.Events.{events_of, this_way}
use Rattle.ot_race.specs.Races.{NothingRaces}
use Rattle.ot_race_order.specs.Orders.{is_alike}
use Rattle.ot_race_order.specs.declared.order.Order.{Order}
use Rattle.ot_race_order.specs.declared.order.Order.TheVariants.{OfLanguage}
use Rattle.ot_race_ways.specs.Verdicts.{NoWayRaces}

-- what a check accepts races on no way
abbrev pub AcceptedRacesOnNoWay : Type 0
AcceptedRacesOnNoWay = (body : Body) → OffendsNowhere body → NoWayRaces OfLanguage body

-- nor where its tasks are ordered as in the language
abbrev pub AcceptedRacesOnNoWayBy : Type 0
AcceptedRacesOnNoWayBy = (order : Order) (body : Body) → is_alike order body ≡ true → OffendsNowhere body → NoWayRaces order body

-- nor in a run from any cells among which are all that it names
abbrev pub AcceptedRacesInNoRun : Type 0
AcceptedRacesInNoRun = (body : Body) (cells : List (List ℕ)) → NamedIn (lengths cells) body → OffendsNowhere body → NothingRaces (events_of this_way body cells)
