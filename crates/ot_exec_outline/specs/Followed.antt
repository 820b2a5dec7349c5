-- Ways by answers: each choice has an answer, by its number, whatever the cells hold.
use Rattle.std.specs.Prelude.{ℕ, ◌+◌, ◌++◌, ◌==◌, length, Bool, true, false, not, if◌then◌else◌, List, [], ◌∷◌, map, Option, Some, None, slice_get, unwrap_or}
use Rattle.ot_model.specs.Tree.{E}
use Rattle.ot_model.specs.Names.{ValueNamedIn}
use Rattle.ot_model.specs.declared.stmt.Mode.TheVariants.{Reads, Writes}
use Rattle.ot_check.specs.Offences.{use_as, Declared}
use Rattle.ot_race.specs.Events.{Event, event, Touches, Begins, Awaits, Leaves, fold_as}
use Rattle.ot_race_ways.specs.Known.{number_in_value, may_read}
use Rattle.ot_exec_outline.specs.Tree.{OutlineStep, SetAt, FoldAt, TouchAt, IfAt, ChooseAt, TaskAt, WaitAt, GroupAt, Steps, Done, Then}
use Rattle.ot_exec_outline.specs.Happens.{ChoiceWay}

-- whether an `if` takes its first body: a condition that names no cell has its value, any other the answer of its choice
abbrev pub goes_first : Option ℕ → Bool → Bool
goes_first (Some n) answer = not (n == 0)
goes_first None answer = answer

abbrev pub branch_decided : (ℕ → Bool) → ℕ → E → Bool
branch_decided answers n e = goes_first (number_in_value e) (answers n)

abbrev pub number : Bool → ℕ
number true = 1
number false = 0

-- the way of these answers, on which a value reads each cell that it may read
abbrev pub by_answers : (ℕ → Bool) → ChoiceWay
by_answers answers = record {
  condition = λ n s e. number (branch_decided answers n e);
  chosen = λ n. number (answers n);
  reads = λ s e. may_read e;
}

-- the answers that a list gives; of other choices the second body is taken
abbrev pub list_answer : List Bool → ℕ → Bool
list_answer given n = unwrap_or (slice_get given n) false

-- ---- what happens, by itself: the tasks that were executed behind steps, before which so many were, and the events

abbrev mutual
  pub tasks_one : (ℕ → Bool) → OutlineStep → ℕ → ℕ
  tasks_one answers (SetAt k c e) t = t
  tasks_one answers (FoldAt k o c e) t = t
  tasks_one answers (TouchAt k us) t = t
  tasks_one answers (IfAt k n e a b) t = if branch_decided answers n e then tasks answers a t else tasks answers b t
  tasks_one answers (ChooseAt k n a b) t = if answers n then tasks answers a t else tasks answers b t
  tasks_one answers (TaskAt k d b) t = tasks answers b (t + 1)
  tasks_one answers (WaitAt k w) t = t
  tasks_one answers (GroupAt k o cs b) t = tasks answers b t

  pub tasks : (ℕ → Bool) → Steps → ℕ → ℕ
  tasks answers Done t = t
  tasks answers (Then x rest) t = tasks answers rest (tasks_one answers x t)

abbrev mutual
  pub step_events : (ℕ → Bool) → Declared → ℕ → OutlineStep → ℕ → List Event
  step_events answers own me (SetAt k c e) t = event me k Touches (map (use_as Reads) (may_read e) ++ use_as Writes c ∷ []) ∷ []
  step_events answers own me (FoldAt k o c e) t = event me k Touches (map (use_as Reads) (may_read e) ++ use_as (fold_as own o c) c ∷ []) ∷ []
  step_events answers own me (TouchAt k us) t = event me k Touches us ∷ []
  step_events answers own me (IfAt k n e a b) t =
      event me k Touches (map (use_as Reads) (may_read e))
      ∷ (if branch_decided answers n e then steps_events answers own me a t else steps_events answers own me b t)
  step_events answers own me (ChooseAt k n a b) t = if answers n then steps_events answers own me a t else steps_events answers own me b t
  step_events answers own me (TaskAt k d b) t = event (t + 1) k (Begins me d) [] ∷ steps_events answers (Some d) (t + 1) b (t + 1)
  step_events answers own me (WaitAt k w) t = event me k (Awaits w) [] ∷ []
  step_events answers own me (GroupAt k o cs b) t =
      let inside = steps_events answers own me b t in
      inside ++ event me k (Leaves (length inside)) (map (use_as Writes) cs) ∷ []

  pub steps_events : (ℕ → Bool) → Declared → ℕ → Steps → ℕ → List Event
  steps_events answers own me Done t = []
  steps_events answers own me (Then x rest) t = step_events answers own me x t ++ steps_events answers own me rest (tasks_one answers x t)

-- the events of an outline
abbrev pub events_by : (ℕ → Bool) → Steps → List Event
events_by answers steps = steps_events answers None 0 steps 0

-- ---- values name cells of arrays

abbrev pub IsOfCells : E → Type 0
IsOfCells e = (lens : List ℕ) × ValueNamedIn lens e

abbrev mutual
  pub FitsOne : OutlineStep → Type 0
  FitsOne (SetAt k c e) = IsOfCells e
  FitsOne (FoldAt k o c e) = IsOfCells e
  FitsOne (TouchAt k us) = Unit {0}
  FitsOne (IfAt k n e a b) = IsOfCells e × Fits a × Fits b
  FitsOne (ChooseAt k n a b) = Fits a × Fits b
  FitsOne (TaskAt k d b) = Fits b
  FitsOne (WaitAt k w) = Unit {0}
  FitsOne (GroupAt k o cs b) = Fits b

  pub Fits : Steps → Type 0
  Fits Done = Unit {0}
  Fits (Then x rest) = FitsOne x × Fits rest
