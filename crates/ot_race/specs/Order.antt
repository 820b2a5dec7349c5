-- Which event of a run comes before which, however its tasks are scheduled. Events are told by their places in the list.
use Rattle.std.specs.Prelude.{◌≡◌, ◌<◌, ◌≤◌, ◌+◌, ℕ, true, List, Option, Some, slice_get}
use Rattle.ot_model.specs.Cells.{depends_on}
use Rattle.ot_model.specs.declared.stmt.Use.{Use}
use Rattle.ot_check.specs.Offences.{awaits}
use Rattle.ot_race.specs.Events.{Deed, Begins, Awaits, Leaves, Event}

-- event i is the task's
pub record IsBy (es : List Event) (task i : ℕ) : Type 0 where
  pub it : Event
  pub there : slice_get es i ≡ Some it
  pub done_by : it.task ≡ task

-- event i is this deed of the task
pub record Does (es : List Event) (task : ℕ) (deed : Deed) (i : ℕ) : Type 0 where
  pub it : Event
  pub there : slice_get es i ≡ Some it
  pub done_by : it.task ≡ task
  pub does : it.deed ≡ deed

-- Event i leads to a later event j
-- in turn: as events of one task;
-- by creation: as an event of the parent to the begin of its child (OpenMP API 5.2, section 12.5);
-- by dependence: as an event of a child to the begin of a later sibling that depends on it (section 15.9.5);
-- by a wait: as an event of a child that the wait awaits (sections 15.5, 15.9.5);
-- by a group's end: as an event in the group, whatever task's: tasks that are created in a group, also within its tasks, have
-- all their events there (section 15.4).
pub data Leads (es : List Event) : ℕ → ℕ → Type 0 where
  InTurn : (me i j : ℕ) → IsBy es me i → i < j → IsBy es me j → Leads es i j
  ByCreation : (parent child i j : ℕ) (wants : List Use) → IsBy es parent i → i < j → Does es child (Begins parent wants) j → Leads es i j
  ByDependence : (parent child later h i j : ℕ) (uses wants : List Use) → Does es child (Begins parent uses) h → h < j →
      Does es later (Begins parent wants) j → depends_on uses wants ≡ true → IsBy es child i → i < j → Leads es i j
  ByWait : (me child h i j : ℕ) (uses : List Use) (w : Option (List Use)) → Does es child (Begins me uses) h → h < j → Does es me (Awaits w) j →
      awaits w uses ≡ true → IsBy es child i → i < j → Leads es i j
  ByEnd : (me count i j : ℕ) → Does es me (Leaves count) j → i < j → j ≤ i + count → Leads es i j

-- the least relation that has these and goes on over them
pub data IsBefore (es : List Event) : ℕ → ℕ → Type 0 where
  Once : (i j : ℕ) → Leads es i j → IsBefore es i j
  Then : (i j k : ℕ) → IsBefore es i j → Leads es j k → IsBefore es i k
