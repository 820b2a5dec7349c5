-- Which races are looked for in what stands for a C text: in its run, and then on all ways through its branches.
use Rattle.std.specs.Prelude.{◌≡◌, ◌⊎◌, List, [], ℕ, Bool, true, false, Option, Some, None}
use Rattle.ot_model.specs.Tree.{Body}
use Rattle.ot_check.specs.Discipline.{OffendsNowhere}
use Rattle.ot_race.specs.Events.{Event, this_way, events_of}
use Rattle.ot_race.specs.Races.{NothingRaces}
use Rattle.ot_race_all.specs.AllRaces.{TellsAll}
use Rattle.ot_race_all.specs.declared.races.Races.{Races}
use Rattle.ot_race_order.specs.Orders.{ordered_by, is_alike}
use Rattle.ot_race_order.specs.declared.order.Order.{Order}
use Rattle.ot_race_ways.specs.Straight.{is_straight}
use Rattle.ot_race_ways.specs.Verdicts.{AreFew, NoWayRaces, IsRaceOn}
use Rattle.ot_race_ways.specs.declared.verdict.Turn.{Turn}
use Rattle.ot_race_ways.specs.declared.verdict.Verdict.{Verdict}
use Rattle.ot_race_ways.specs.declared.verdict.Verdict.TheVariants.{RacesOnNoWay, RacesOnWay, TooManyWays}
use Rattle.ot_c_judge.specs.declared.finding.Finding.{Finding}
use Rattle.ot_c_judge.specs.declared.finding.Finding.TheVariants.{InRun, OnWay, Nowhere, OnlyRun}

-- the events of the run that begins with these cells, where this orders its tasks
abbrev pub events_by : Order → Body → List (List ℕ) → List Event
events_by order body cells = ordered_by order (events_of this_way body cells)

-- a server accepts the body, and this orders its tasks as the language does
abbrev pub IsAccepted : Order → Body → Type 0
IsAccepted order body = OffendsNowhere body × (is_alike order body ≡ true)

-- it has no picks and no branches but those whose values and conditions name no cell, so that its ways do what its run does
abbrev pub IsStraight : Body → Type 0
IsStraight body = is_straight body ≡ true

-- all its ways are known: they are few, or it is accepted, so that none of them races, or it is straight
abbrev pub AreWaysKnown : Order → Body → Type 0
AreWaysKnown order body = AreFew body ⊎ (IsAccepted order body ⊎ IsStraight body)

-- of a list of events all races are told, but no more than 20, and how many more there are; or nothing races
abbrev pub TellsRun : List Event → Option Races → Type 0
TellsRun es None = NothingRaces es
TellsRun es (Some races) = TellsAll es 20 races × (races.told.items ≡ [] → ⊥)

-- the races of the run; where nothing races in it, the first race of a way, from any cells; or that no way races, or that
-- there are too many ways to know
abbrev pub Finds : Order → Body → List (List ℕ) → Finding → Type 0
Finds order body cells (InRun races) = TellsRun (events_by order body cells) (Some races)
Finds order body cells (OnWay race) =
    NothingRaces (events_by order body cells) × AreFew body × (taken : List Turn) × ((from : List (List ℕ)) → IsRaceOn order body taken race from)
Finds order body cells Nowhere = NothingRaces (events_by order body cells) × AreWaysKnown order body × NoWayRaces order body
Finds order body cells OnlyRun = NothingRaces (events_by order body cells) × (AreWaysKnown order body → ⊥)

-- that no way races
abbrev pub is_clean : Verdict → Bool
is_clean RacesOnNoWay = true
is_clean (RacesOnWay taken race) = false
is_clean TooManyWays = false

-- what the ways tell
abbrev pub finding_of : Verdict → Finding
finding_of RacesOnNoWay = Nowhere
finding_of (RacesOnWay taken race) = OnWay race
finding_of TooManyWays = OnlyRun
