-- What is found in code: in its run, and on its ways.
use Rattle.std.specs.Prelude.{◌≡◌, ◌<◌, ◌^◌, ◌++◌, ◌⊎◌, nat_le, ℕ, Bool, true, false, List, [], length, map, Option, Some, None}
use Rattle.ot_exec_code.specs.declared.form.Code.{Code}
use Rattle.ot_race_order.specs.Orders.{ordered_by}
use Rattle.ot_race_order.specs.declared.order.Order.TheVariants.{OfC}
use Rattle.ot_race_locks.specs.OpenRaces.{TellsApart}
use Rattle.ot_race_locks.specs.declared.apart.Apart.{Apart}
use Rattle.ot_race_locks.specs.declared.apart.Apart.TheVariants as apart
use Rattle.ot_race_locks.specs.declared.locks.Locks.{Locks}
use Rattle.ot_exec_machine.specs.Runs.{Reached, run_of, run_events_of, TellsEvents}
use Rattle.ot_exec_machine.specs.Telling.{fault_of}
use Rattle.ot_exec_machine.specs.declared.run.Run.{Run}
use Rattle.ot_exec_outline.specs.Followed.{list_answer}
use Rattle.ot_exec_outline.specs.View.{noted_in}
use Rattle.ot_exec_outline.specs.Ways.{Begins, RacesOnNone}
use Rattle.ot_race.specs.Events.{Event}
use Rattle.ot_race.specs.Races.{NothingRaces, IsFirstRace}
use Rattle.ot_race.specs.declared.race.Race.{Race}
use Rattle.ot_race_all.specs.AllRaces.{TellsAll}
use Rattle.ot_exec_state.specs.declared.fault.Fault.{Fault}
use Rattle.ot_exec_state.specs.declared.limits.Limits.{Limits}
use Rattle.ot_exec_verdict.specs.declared.finding.Bounds.{Bounds}
use Rattle.ot_exec_verdict.specs.declared.finding.Finding.{Finding}
use Rattle.ot_exec_verdict.specs.declared.finding.Finding.TheVariants as f
use Rattle.ot_exec_verdict.specs.declared.finding.Met.{Met}
use Rattle.ot_exec_verdict.specs.declared.finding.Met.TheVariants as m
use Rattle.ot_exec_verdict.specs.declared.finding.Others.{Others}
use Rattle.ot_exec_verdict.specs.declared.finding.Others.TheVariants as o
use Rattle.ot_exec_verdict.specs.declared.finding.Outcome.{Outcome}
use Rattle.ot_exec_verdict.specs.declared.finding.Outcome.TheVariants.{Found, Changes}
use Rattle.ot_exec_verdict.specs.declared.finding.Rest.{Rest}
use Rattle.ot_exec_verdict.specs.declared.finding.Rest.TheVariants as r
use Rattle.ot_exec_verdict.specs.declared.locked.Faults.{Faults}

-- ---- runs

-- the run of code by these answers; to further questions the answer is no
abbrev pub run_by : Code → Limits → List Bool → Reached
run_by code l given = run_of code l (list_answer given)

-- what happens in a run, as C orders it
abbrev pub events_of_run : Run → List Event
events_of_run run = ordered_by OfC (noted_in run.log.items)

-- these locks are those that the events of a run hold
pub record AreHeld (run : Run) (locks : Locks) : Type 0 where
  pub sets : map (λ set. set.items) locks.sets.now ≡ map (λ set. set.items) run.sets.items
  pub held : locks.held.now ≡ run.held.items

-- what is told of two touches of a run that hold no lock in common
abbrev pub TellsOpen : Run → Apart → Type 0
TellsOpen run told = (locks : Locks) × AreHeld run locks × TellsApart (events_of_run run) locks told

-- whether no event of a run holds a lock
abbrev pub holds_none : Run → Bool
holds_none run = nat_le (length run.sets.items) 1

-- Nothing races in a run: in one whose events hold locks, no two touches without a lock in common.
abbrev pub HasNoneBy : Bool → Run → Type 0
HasNoneBy true run = NothingRaces (events_of_run run)
HasNoneBy false run = TellsOpen run apart.RacesNowhere

abbrev pub HasNone : Run → Type 0
HasNone run = HasNoneBy (holds_none run) run

-- the run of code with what is known, which came to its end and asked nothing
pub record IsAlone (code : Code) (l : Limits) (run : Run) : Type 0 where
  pub is : TellsEvents run (run_by code l [])
  pub ended : run.fault ≡ None
  pub asked : run.asked ≡ 0

-- the race is the first one of the run of code by some answers, or its first one of touches without a lock in common
pub record IsOnWay (code : Code) (l : Limits) (run : Run) (race : Race) : Type 0 where
  pub answers : List Bool
  pub is : TellsEvents run (run_by code l answers)
  pub first : IsFirstRace (events_of_run run) race.cell race.place race.later ⊎ TellsOpen run (apart.Races race)

-- the run of code by some answers ends with this fault
abbrev pub EndsBy : Code → Limits → Fault → Type 0
EndsBy code l fault = (answers : List Bool) × (fault_of (run_by code l answers) ≡ Some fault)

-- nothing races so in the runs of code by answers that begin with these, as far as they come to their ends
abbrev pub OpenOnNone : Code → Limits → List Bool → Type 0
OpenOnNone code l given =
    (answers : ℕ → Bool) → Begins given answers → (run : Run) → TellsEvents run (run_of code l answers) → run.fault ≡ None → TellsOpen run apart.RacesNowhere

-- ---- what is found

-- What it rests on that nothing races: on the run; or on all ways of the answers, whose events are none where one ends with a fault.
abbrev pub Rests : Code → Bounds → Rest → Type 0
Rests code b r.Run = (run : Run) × IsAlone code b.run run × HasNone run
Rests code b r.Ways = RacesOnNone OfC (λ answers. run_events_of (run_of code b.way answers)) []
Rests code b r.LockedWays = OpenOnNone code b.way []
Rests code b r.Less = Unit {0}

-- What is found in code. Of code with less that is known nothing is said but that its race is one.
abbrev pub Finds : Code → Bounds → Finding → Type 0
Finds code b (f.Nothing rest) = Rests code b rest
Finds code b (f.OnlyRun rest) = Rests code b rest
Finds code b (f.InRun run races) = IsAlone code b.run run × TellsAll (events_of_run run) 1000000 races × (races.told.items ≡ [] → ⊥)
Finds code b (f.Apart run race) = IsAlone code b.run run × TellsOpen run (apart.Races race)
Finds code b (f.OnWay run race) = IsOnWay code b.way run race
Finds code b (f.OnOtherWay run race) = (other : Code) × IsOnWay other b.way run race
Finds code b (f.Ended fault) = (fault_of (run_by code b.run []) ≡ Some fault) ⊎ EndsBy code b.way fault
Finds code b (f.TooManyWays at) = Unit {0}
Finds code b f.Crowded = Unit {0}
Finds code b f.TooManyChanges = Unit {0}

-- the same code, which says of more objects that they are written under locks
pub record SaysMore (old new : Code) : Type 0 where
  pub more : List ℕ
  pub forms : new.forms ≡ old.forms
  pub slots : new.slots ≡ old.slots
  pub functions : new.functions ≡ old.functions
  pub changing : new.changing.items ≡ old.changing.items ++ more

-- ---- parts of it

abbrev pub ComesToFinding : Code → Bounds → Outcome → Type 0
ComesToFinding code b (Found finding) = Finds code b finding
ComesToFinding code b (Changes name) = Unit {0}

-- the run of code with what is known, where there is one
abbrev pub IsNamed : Code → Limits → Option Run → Type 0
IsNamed code l None = Unit {0}
IsNamed code l (Some run) = TellsEvents run (run_by code l []) × (length run.log.items < 2 ^ 32)

-- of a run that came to its end and asked nothing
abbrev pub FindsAlone : Run → Finding → Type 0
FindsAlone run (f.Nothing r.Run) = HasNone run
FindsAlone run (f.InRun own races) = (own ≡ run) × TellsAll (events_of_run run) 1000000 races × (races.told.items ≡ [] → ⊥)
FindsAlone run (f.Apart own race) = (own ≡ run) × TellsOpen run (apart.Races race)
FindsAlone run f.Crowded = Unit {0}
FindsAlone run _ = ⊥

-- what is met on all ways of code
abbrev pub Meets : Code → Limits → Met → Type 0
Meets code l (m.Nothing r.Ways) = RacesOnNone OfC (λ answers. run_events_of (run_of code l answers)) []
Meets code l (m.Nothing r.LockedWays) = OpenOnNone code l []
Meets code l (m.Nothing r.Run) = ⊥
Meets code l (m.Nothing r.Less) = ⊥
Meets code l (m.Races run race) = IsOnWay code l run race
Meets code l (m.Fault fault) = EndsBy code l fault
Meets code l m.TooMany = Unit {0}
Meets code l m.Crowded = Unit {0}
Meets code l (m.Changes name) = Unit {0}

-- the same of code with less that is known
abbrev pub MeetsOther : Limits → Option Met → Type 0
MeetsOther l (Some (m.Races run race)) = (other : Code) × IsOnWay other l run race
MeetsOther l _ = Unit {0}

abbrev pub MeetsBeyond : Limits → Others → Type 0
MeetsBeyond l (o.Races run race) = (other : Code) × IsOnWay other l run race
MeetsBeyond l _ = Unit {0}

-- a fault of a way, where there is one
abbrev pub IsFault : Code → Limits → Option Fault → Type 0
IsFault code l None = Unit {0}
IsFault code l (Some fault) = EndsBy code l fault

-- what ends ways, where something does
abbrev pub MeetsSome : Code → Limits → Option Met → Type 0
MeetsSome code l None = Unit {0}
MeetsSome code l (Some met) = Meets code l met

-- the same of one way, by its run
abbrev pub MeetsOne : Run → Option Met → Type 0
MeetsOne run None = run.fault ≡ None → TellsOpen run apart.RacesNowhere
MeetsOne run (Some (m.Races own race)) = (own ≡ run) × TellsOpen run (apart.Races race)
MeetsOne run (Some m.Crowded) = Unit {0}
MeetsOne run (Some _) = ⊥

-- faults of ways
abbrev pub AreFaults : Code → Limits → Faults → Type 0
AreFaults code l faults = IsFault code l faults.limit × IsFault code l faults.error

-- with the fault of one more way, or none
abbrev pub IsOldOr : Option Fault → Option Fault → Option Fault → Type 0
IsOldOr old own new = (new ≡ old) ⊎ (new ≡ own)

abbrev pub HasMore : Run → Faults → Faults → Type 0
HasMore run old new = IsOldOr old.limit run.fault new.limit × IsOldOr old.error run.fault new.error

-- what is told of the faults that ways have
abbrev pub TellsFaults : Faults → Met → Type 0
TellsFaults faults (m.Fault fault) = (faults.limit ≡ Some fault) ⊎ (faults.error ≡ Some fault)
TellsFaults faults (m.Nothing r.LockedWays) = Unit {0}
TellsFaults faults _ = ⊥
