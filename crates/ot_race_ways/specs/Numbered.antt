-- The ways through a body by their numbers, from 0: the events and the turns of way n, and the tasks that it creates. For this
-- crate alone.
use Rattle.std.specs.Prelude.{ℕ, ◌+◌, ◌-◌, ◌/◌, ◌%◌, ◌++◌, ◌==◌, nat_lt, not, Bool, if◌then◌else◌, length, true, false, List, [], ◌∷◌, map, Option, Some, None}
use Rattle.ot_model.specs.Tree.{S, Set, Fold, If, Task, Wait, Group, Body, End, Next, size, size_one}
use Rattle.ot_model.specs.declared.stmt.Mode.TheVariants.{Reads, Writes}
use Rattle.ot_check.specs.Offences.{use_as, Declared}
use Rattle.ot_race.specs.Events.{Event, event, Touches, Begins, Awaits, Leaves, fold_as}
use Rattle.ot_race_ways.specs.Known.{number_in_value, may_read}
use Rattle.ot_race_ways.specs.Ways.{ways, ways_one, turn}
use Rattle.ot_race_ways.specs.declared.verdict.Turn.{Turn}

-- whether way n through an `if` goes through its first body, through which there are so many ways; where its condition is known it
-- goes as that says
abbrev pub takes_first : Option ℕ → ℕ → ℕ → Bool
takes_first None n first = nat_lt n first
takes_first (Some m) n first = not (m == 0)

-- and the number that is left of it for its second body
abbrev pub left_for_second : Option ℕ → ℕ → ℕ → ℕ
left_for_second None n first = n - first
left_for_second (Some m) n first = n

-- Way n through a statement and those behind it is way n % w through it, of its w, and way n / w through those; way n of an
-- `if` is that of its first body, or else way n less those of its first body of its second. Where the condition is known it is way n
-- of the body that is taken.
abbrev mutual
  pub tasks_on_one : ℕ → S → ℕ
  tasks_on_one n (Set c e) = 0
  tasks_on_one n (Fold o c e) = 0
  tasks_on_one n (If e a b) = if takes_first (number_in_value e) n (ways a) then tasks_on n a else tasks_on (left_for_second (number_in_value e) n (ways a)) b
  tasks_on_one n (Task d b) = 1 + tasks_on n b
  tasks_on_one n (Wait w) = 0
  tasks_on_one n (Group o cs b) = tasks_on n b

  pub tasks_on : ℕ → Body → ℕ
  tasks_on n End = 0
  tasks_on n (Next x rest) = tasks_on_one (n % ways_one x) x + tasks_on (n / ways_one x) rest

abbrev mutual
  pub turns_on_one : ℕ → ℕ → S → List Turn
  turns_on_one n k (Set c e) = []
  turns_on_one n k (Fold o c e) = []
  turns_on_one n k (If e a b) = if takes_first (number_in_value e) n (ways a) then turn k true ∷ turns_on n (k + 1) a else turn k false ∷ turns_on (left_for_second (number_in_value e) n (ways a)) (k + 1 + size a) b
  turns_on_one n k (Task d b) = turns_on n (k + 1) b
  turns_on_one n k (Wait w) = []
  turns_on_one n k (Group o cs b) = turns_on n (k + 1) b

  pub turns_on : ℕ → ℕ → Body → List Turn
  turns_on n k End = []
  turns_on n k (Next x rest) = turns_on_one (n % ways_one x) k x ++ turns_on (n / ways_one x) (k + size_one x) rest

-- the events in the task `me`, which declares this, before which so many tasks were executed
abbrev mutual
  pub events_on_one : ℕ → Declared → ℕ → ℕ → S → ℕ → List Event
  events_on_one n own me k (Set c e) tasks = event me k Touches (map (use_as Reads) (may_read e) ++ use_as Writes c ∷ []) ∷ []
  events_on_one n own me k (Fold o c e) tasks = event me k Touches (map (use_as Reads) (may_read e) ++ use_as (fold_as own o c) c ∷ []) ∷ []
  events_on_one n own me k (If e a b) tasks =
      event me k Touches (map (use_as Reads) (may_read e))
      ∷ (if takes_first (number_in_value e) n (ways a) then events_on n own me (k + 1) a tasks else events_on (left_for_second (number_in_value e) n (ways a)) own me (k + 1 + size a) b tasks)
  events_on_one n own me k (Task d b) tasks = event (tasks + 1) k (Begins me d) [] ∷ events_on n (Some d) (tasks + 1) (k + 1) b (tasks + 1)
  events_on_one n own me k (Wait w) tasks = event me k (Awaits w) [] ∷ []
  events_on_one n own me k (Group o cs b) tasks =
      let inside = events_on n own me (k + 1) b tasks in
      inside ++ event me k (Leaves (length inside)) (map (use_as Writes) cs) ∷ []

  pub events_on : ℕ → Declared → ℕ → ℕ → Body → ℕ → List Event
  events_on n own me k End tasks = []
  events_on n own me k (Next x rest) tasks =
      events_on_one (n % ways_one x) own me k x tasks ++ events_on (n / ways_one x) own me (k + size_one x) rest (tasks + tasks_on_one (n % ways_one x) x)
