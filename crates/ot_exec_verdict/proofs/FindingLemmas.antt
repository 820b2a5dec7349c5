-- What is known of runs and ways.
use Rattle.std.proofs.Common.{◌≡◌, ◌∙◌, ◌-◌, ◌<◌, ◌≤◌, ◌++◌, ◌∷◌, [], ℕ, zero, suc, List, Bool, true, false, length, take, refl, sym, ap, subst, inl, inr, arith}
use Rattle.std.specs.Prelude.{Option, Some, None, Result, Ok, Err, IfOk, OnOk, nat_le, slice_get}
use Rattle.ot_exec_code.specs.declared.form.Code.{Code}
use Rattle.ot_race_locks.specs.OpenRaces.{TellsApart}
use Rattle.ot_race_locks.specs.declared.apart.Apart.{Apart}
use Rattle.ot_race_locks.specs.declared.apart.Apart.TheVariants as apart
use Rattle.ot_exec_machine.specs.Runs.{Reached, run_of, run_events_of, asked_in, TellsEvents}
use Rattle.ot_exec_machine.specs.Stable.{whole_same}
use Rattle.ot_exec_machine.specs.Telling.{fault_of}
use Rattle.ot_exec_machine.specs.declared.run.Run.{Run}
use Rattle.ot_exec_outline.specs.Followed.{list_answer}
use Rattle.ot_exec_outline.specs.View.{noted_in}
use Rattle.ot_exec_outline.specs.Ways.{Begins}
use Rattle.ot_exec_outline.proofs.AskedLemmas.{begins_more}
use Rattle.ot_race_order.specs.Orders.{ordered_by}
use Rattle.ot_race_order.specs.declared.order.Order.TheVariants.{OfC}
use Rattle.ot_race.specs.Events.{Event}
use Rattle.ot_race.specs.Races.{NothingRaces, IsFirstRace, TellsFirst}
use Rattle.ot_race.specs.declared.race.Race.{Race}
use Rattle.ot_race_all.specs.AllRaces.{IsMore, TellsAll}
use Rattle.ot_race_all.specs.declared.races.More.{More}
use Rattle.ot_race_all.specs.declared.races.More.TheVariants.{Exactly, AtLeast}
use Rattle.ot_race_all.specs.declared.races.Races.{Races}
use Rattle.ot_exec_state.specs.declared.limits.Limits.{Limits}
use Rattle.std.proofs.lemmas.Bool.Decides.{nat_tests}
use Rattle.ot_exec_state.specs.declared.fault.Fault.{Fault}
use Rattle.ot_exec_verdict.specs.Findings.{TellsOpen, OpenOnNone, HasNone, HasNoneBy, IsFault, IsOldOr, AreFaults, HasMore, TellsFaults, Meets, MeetsOne, MeetsSome, MeetsOther, IsAlone, FindsAlone, Finds, Rests, events_of_run}
use Rattle.ot_exec_verdict.specs.declared.finding.Bounds.{Bounds}
use Rattle.ot_exec_verdict.specs.declared.finding.Finding.{Finding}
use Rattle.ot_exec_verdict.specs.declared.finding.Finding.TheVariants as f
use Rattle.ot_exec_verdict.specs.declared.finding.Rest.{Rest}
use Rattle.ot_exec_verdict.specs.declared.finding.Met.{Met}
use Rattle.ot_exec_verdict.specs.declared.finding.Met.TheVariants as m
use Rattle.ot_exec_verdict.specs.declared.finding.Rest.TheVariants as r
use Rattle.ot_exec_verdict.specs.declared.locked.Faults.{Faults}

-- ---- a run and what it tells

pub same_events : (r : Run) (x : Reached) → TellsEvents r x → noted_in r.log.items ≡ run_events_of x
same_events r (Ok p) t = t.1
same_events r (Err e) t = ap noted_in t.1

pub same_asked : (r : Run) (x : Reached) → TellsEvents r x → r.asked ≡ asked_in x
same_asked r (Ok p) t = t.7
same_asked r (Err e) t = t.2

pub same_fault : (r : Run) (x : Reached) → TellsEvents r x → r.fault ≡ fault_of x
same_fault r (Ok p) t = t.0
same_fault r (Err e) t = t.0

some_is_none : {A : Type 0} (x : A) (o : Option A) → o ≡ Some x → o ≡ None → ⊥
some_is_none x o is none = cc

-- two runs that tell the same are open alike
pub same_open : (r s : Run) (x : Reached) → TellsEvents r x → TellsEvents s x → s.fault ≡ None → (told : Apart) → TellsOpen r told → TellsOpen s told
same_open r s (Ok p) t u none told is =
    let events : events_of_run r ≡ events_of_run s = ap (ordered_by OfC) (t.1 ∙ sym u.1) in
    (is.0, record { sets = is.1.sets ∙ t.4 ∙ sym u.4; held = is.1.held ∙ t.3 ∙ sym u.3 }, subst (λ es. TellsApart es is.0 told) events is.2)
same_open r s (Err e) t u none told is = absurd (some_is_none e s.fault u.0 none)

-- ---- all races of a list

first_told : (es : List Event) (rest : ℕ) (all : List Race) (more : More) → IsMore es all rest more → TellsFirst es (slice_get all 0)
first_told es rest all (Exactly count) is = is.0.first
first_told es rest all (AtLeast count) is = is.0.1.first

nothing_told : (es : List Event) (most : ℕ) (all : List Race) → 0 < most → TellsFirst es (slice_get all 0) → length (take most all) ≡ 0 → NothingRaces es
nothing_told es most [] some first none = first
nothing_told es zero (race ∷ others) some first none = absurd (omega (arith, some))
nothing_told es (suc most) (race ∷ others) some first none = absurd (omega (arith, none))

-- where none is told, nothing races
pub none_told : (es : List Event) (most : ℕ) (races : Races) → 0 < most → TellsAll es most races → length races.told.items ≡ 0 → NothingRaces es
none_told es most races some tells none =
    nothing_told es most tells.0 some (first_told es (length tells.0 - most) tells.0 races.more tells.2) (sym (ap length tells.1) ∙ none)

-- ---- ways

-- the way that the answers settle is that of all answers that begin with them
pub settled_open : (code : Code) (l : Limits) (given : List Bool) (run : Run) → TellsEvents run (run_of code l (list_answer given)) → run.asked ≤ length given
    → (run.fault ≡ None → TellsOpen run apart.RacesNowhere) → OpenOnNone code l given
settled_open code l given run tells few clear answers begins other others none =
    let few' : asked_in (run_of code l (list_answer given)) ≤ length given = subst (λ (n : ℕ). n ≤ length given) (same_asked run (run_of code l (list_answer given)) tells) few in
    let same : run_of code l (list_answer given) ≡ run_of code l answers =
    whole_same code l (list_answer given) answers (λ k less. sym (begins k (omega (arith, less, few')))) in
    let own : TellsEvents run (run_of code l answers) = subst (TellsEvents run) same tells in
    let ended : run.fault ≡ None =
    same_fault run (run_of code l answers) own ∙ sym (same_fault other (run_of code l answers) others) ∙ none in
    same_open run other (run_of code l answers) own others none apart.RacesNowhere (clear ended)

by_next : (code : Code) (l : Limits) (given : List Bool) → OpenOnNone code l (given ++ true ∷ []) → OpenOnNone code l (given ++ false ∷ [])
    → (answers : ℕ → Bool) → Begins given answers → (b : Bool) → answers (length given) ≡ b → (run : Run) → TellsEvents run (run_of code l answers) → run.fault ≡ None
    → TellsOpen run apart.RacesNowhere
by_next code l given first second answers begins true h = first answers (begins_more given answers true begins h)
by_next code l given first second answers begins false h = second answers (begins_more given answers false begins h)

pub both_open : (code : Code) (l : Limits) (given : List Bool) → OpenOnNone code l (given ++ true ∷ []) → OpenOnNone code l (given ++ false ∷ []) → OpenOnNone code l given
both_open code l given first second answers begins = by_next code l given first second answers begins (answers (length given)) refl

-- ---- what is met

-- a fault of a run by some answers
pub way_fault : (code : Code) (l : Limits) (given : List Bool) (run : Run) (fault : Option Fault) → TellsEvents run (run_of code l (list_answer given)) → fault ≡ run.fault → IsFault code l fault
way_fault code l given run None tells is = tt
way_fault code l given run (Some fault) tells is = (given, sym (same_fault run (run_of code l (list_answer given)) tells) ∙ sym is)

pub old_or : (code : Code) (l : Limits) (old own new : Option Fault) → IsFault code l old → IsFault code l own → IsOldOr old own new → IsFault code l new
old_or code l old own new before here (inl is) = subst (IsFault code l) (sym is) before
old_or code l old own new before here (inr is) = subst (IsFault code l) (sym is) here

-- the first race of a way is that of its run
pub on_way : (code : Code) (l : Limits) (given : List Bool) (run : Run) (race : Race) → TellsEvents run (run_of code l (list_answer given))
    → IsFirstRace (ordered_by OfC (run_events_of (run_of code l (list_answer given)))) race.cell race.place race.later → IsFirstRace (events_of_run run) race.cell race.place race.later
on_way code l given run race tells first =
    subst (λ es. IsFirstRace (ordered_by OfC es) race.cell race.place race.later) (sym (same_events run (run_of code l (list_answer given)) tells)) first

pub other_meets : (code : Code) (l : Limits) (met : Met) → Meets code l met → MeetsOther l (Some met)
other_meets code l (m.Nothing rest) is = tt
other_meets code l (m.Races run race) is = (code, is)
other_meets code l (m.Fault fault) is = tt
other_meets code l m.TooMany is = tt
other_meets code l m.Crowded is = tt
other_meets code l (m.Changes name) is = tt

pub none_in : (run : Run) (races : Races) → length run.sets.items ≤ 1 → TellsAll (events_of_run run) 1000000 races → length races.told.items ≡ 0 → HasNone run
none_in run races few tells none =
    let is : nat_le (length run.sets.items) 1 ≡ true = grind (arith, nat_tests) in
    subst (λ b. HasNoneBy b run) (sym is) (none_told (events_of_run run) 1000000 races (omega arith) tells none)

pub if_ok : {A E : Type 0} (r : Result A E) (P Q : A → Type 0) → ((x : A) → P x → Q x) → IfOk r P → IfOk r Q
if_ok (Ok x) P Q f h = f x h
if_ok (Err e) P Q f h = tt

pub on_ok : {A E : Type 0} (r : Result A E) (P Q : Type 0) → (P → Q) → OnOk r P → OnOk r Q
on_ok (Ok x) P Q f h = f h
on_ok (Err e) P Q f h = tt

-- ---- ways of code with locks

pub one_met : (code : Code) (l : Limits) (given : List Bool) (run : Run) → TellsEvents run (run_of code l (list_answer given)) → (o : Option Met) → MeetsOne run o → MeetsSome code l o
one_met code l given run tells None is = tt
one_met code l given run tells (Some (m.Nothing rest)) is = absurd is
one_met code l given run tells (Some (m.Races own race)) is = record {
  answers = given;
  is = subst (λ (r : Run). TellsEvents r (run_of code l (list_answer given))) (sym is.0) tells;
  first = inr (subst (λ (r : Run). TellsOpen r (apart.Races race)) (sym is.0) is.1);
}
one_met code l given run tells (Some (m.Fault fault)) is = absurd is
one_met code l given run tells (Some m.TooMany) is = absurd is
one_met code l given run tells (Some m.Crowded) is = tt
one_met code l given run tells (Some (m.Changes name)) is = absurd is

pub more_faults : (code : Code) (l : Limits) (given : List Bool) (run : Run) (old new : Faults) → TellsEvents run (run_of code l (list_answer given)) → AreFaults code l old → HasMore run old new → AreFaults code l new
more_faults code l given run old new tells are more =
    let own = way_fault code l given run run.fault tells refl in
    (old_or code l old.limit run.fault new.limit are.0 own more.0, old_or code l old.error run.fault new.error are.1 own more.1)

pub told_meets : (code : Code) (l : Limits) (faults : Faults) (met : Met) → AreFaults code l faults → OpenOnNone code l [] → TellsFaults faults met → Meets code l met
told_meets code l faults (m.Nothing r.Run) are none is = absurd is
told_meets code l faults (m.Nothing r.Ways) are none is = absurd is
told_meets code l faults (m.Nothing r.LockedWays) are none is = none
told_meets code l faults (m.Nothing r.Less) are none is = absurd is
told_meets code l faults (m.Races run race) are none is = absurd is
told_meets code l faults (m.Fault fault) are none (inl is) = subst (IsFault code l) is are.0
told_meets code l faults (m.Fault fault) are none (inr is) = subst (IsFault code l) is are.1
told_meets code l faults m.TooMany are none is = absurd is
told_meets code l faults m.Crowded are none is = absurd is
told_meets code l faults (m.Changes name) are none is = absurd is

-- ---- what is found in the run alone

pub alone_none : (run : Run) (rest : Rest) → FindsAlone run (f.Nothing rest) → HasNone run
alone_none run r.Run is = is
alone_none run r.Ways is = absurd is
alone_none run r.LockedWays is = absurd is
alone_none run r.Less is = absurd is

rests_alone : (code : Code) (b : Bounds) (run : Run) → IsAlone code b.run run → (rest : Rest) → FindsAlone run (f.Nothing rest) → Rests code b rest
rests_alone code b run alone r.Run is = (run, alone, is)
rests_alone code b run alone r.Ways is = absurd is
rests_alone code b run alone r.LockedWays is = absurd is
rests_alone code b run alone r.Less is = absurd is

pub alone_finds : (code : Code) (b : Bounds) (run : Run) → IsAlone code b.run run → (found : Finding) → FindsAlone run found → Finds code b found
alone_finds code b run alone (f.Nothing rest) is = rests_alone code b run alone rest is
alone_finds code b run alone (f.OnlyRun rest) is = absurd is
alone_finds code b run alone (f.InRun own races) is =
    (subst (IsAlone code b.run) (sym is.0) alone, subst (λ (r : Run). TellsAll (events_of_run r) 1000000 races) (sym is.0) is.1, is.2)
alone_finds code b run alone (f.Apart own race) is =
    (subst (IsAlone code b.run) (sym is.0) alone, subst (λ (r : Run). TellsOpen r (apart.Races race)) (sym is.0) is.1)
alone_finds code b run alone (f.OnWay own race) is = absurd is
alone_finds code b run alone (f.OnOtherWay own race) is = absurd is
alone_finds code b run alone (f.Ended fault) is = absurd is
alone_finds code b run alone (f.TooManyWays at) is = absurd is
alone_finds code b run alone f.Crowded is = tt
alone_finds code b run alone f.TooManyChanges is = absurd is
