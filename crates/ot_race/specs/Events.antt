-- What happens when a program goes one way: its events, in the order of the serial run, each task where it is created.
use Rattle.std.specs.Prelude.{ℕ, ◌+◌, ◌%◌, ◌++◌, length, if◌then◌else◌, List, [], ◌∷◌, map, Option, Some, None}
use Rattle.ot_model.specs.Tree.{E, Literal, CellAt, Apply, PickFrom, S, Set, Fold, If, Task, Wait, Group, Body, End, Next, val, cell_at, size, size_one}
use Rattle.ot_model.specs.Cells.{cell_of}
use Rattle.ot_model.specs.Joining.{join_by}
use Rattle.ot_model.specs.Serial.{State, bump, change, either}
use Rattle.ot_model.specs.declared.expr.Cell.{Cell}
use Rattle.ot_model.specs.declared.fold.Fold.{Fold as Operation}
use Rattle.ot_model.specs.declared.stmt.Mode.{Mode}
use Rattle.ot_model.specs.declared.stmt.Mode.TheVariants.{Reads, Writes, Folds}
use Rattle.ot_model.specs.declared.stmt.Use.{Use}
use Rattle.ot_check.specs.Offences.{use_as, Declared, folds_to}

-- ---- events

-- What an event is: what one statement does with cells, the begin of a task that this task created and that declares this, a
-- wait and what it declares, if it does, or the end of a group in which so many events were.
pub data Deed : Type 0 where
  Touches : Deed
  Begins : ℕ → List Use → Deed
  Awaits : Option (List Use) → Deed
  Leaves : ℕ → Deed

-- an event: the task that does it, the place of its statement, what it is, and the cells that it uses
pub record Event : Type 0 where
  pub task : ℕ
  pub place : ℕ
  pub deed : Deed
  pub uses : List Use

abbrev pub event : ℕ → ℕ → Deed → List Use → Event
event task place deed uses = record { task = task; place = place; deed = deed; uses = uses }

-- ---- ways through a program

-- a way: the number of each condition that an `if` meets, and the cells that a value reads
pub record Way : Type 0 where
  pub condition : State → E → ℕ
  pub reads : State → E → List Cell

-- the cells that a value reads, of a pick the one that is chosen
abbrev pub reads_now : (Cell → Option ℕ) → E → List Cell
reads_now look (Literal n) = []
reads_now look (CellAt c) = c ∷ []
reads_now look (Apply o a b) = reads_now look a ++ reads_now look b
reads_now look (PickFrom s e) = reads_now look e ++ cell_at s (val look e % s.len) ∷ []

-- the way of the run from numbers that are given: as they say
abbrev pub this_way : Way
this_way = record { condition = λ s e. val (cell_of s.cells) e; reads = λ s e. reads_now (cell_of s.cells) e }

-- what a statement itself does with cells. A fold is one where the task declares the cell as `red` by its operation;
-- elsewhere it is a read and a write (OpenMP API 5.2, section 5.5)
abbrev pub fold_as : Declared → Operation → Cell → Mode
fold_as own o c = if folds_to own o c then Folds o else Writes

abbrev pub uses_by : Way → Declared → State → S → List Use
uses_by way own s (Set c e) = map (use_as Reads) (way.reads s e) ++ use_as Writes c ∷ []
uses_by way own s (Fold o c e) = map (use_as Reads) (way.reads s e) ++ use_as (fold_as own o c) c ∷ []
uses_by way own s (If e a b) = map (use_as Reads) (way.reads s e)
uses_by way own s (Task d b) = []
uses_by way own s (Wait w) = []
uses_by way own s (Group o cs b) = []

-- the cells and counts behind a statement, behind a body, on this way
abbrev mutual
  pub after_one : Way → S → State → State
  after_one way (Set c e) s = bump 0 1 (change s c (λ _. val (cell_of s.cells) e))
  after_one way (Fold o c e) s = bump 0 1 (change s c (λ n. join_by o n (val (cell_of s.cells) e)))
  after_one way (If e a b) s = either (way.condition s e) (after way a (bump 0 1 s)) (after way b (bump 0 1 s))
  after_one way (Task d b) s = after way b (bump 1 1 s)
  after_one way (Wait w) s = bump 0 1 s
  after_one way (Group o cs b) s = after way b (bump 0 1 s)

  pub after : Way → Body → State → State
  after way End s = s
  after way (Next x rest) s = after way rest (after_one way x s)

-- The events of a statement, of a body, whose place is k, in the task `me`, which declares this. A task's number is that of
-- the tasks executed before it and 1; a task is executed where it is created, and the events of its body stand there. The end
-- of a group writes the cells that the group reduces.
abbrev mutual
  pub events_one : Way → Declared → ℕ → ℕ → S → State → List Event
  events_one way own me k (Set c e) s = event me k Touches (uses_by way own s (Set c e)) ∷ []
  events_one way own me k (Fold o c e) s = event me k Touches (uses_by way own s (Fold o c e)) ∷ []
  events_one way own me k (If e a b) s =
      event me k Touches (uses_by way own s (If e a b))
      ∷ either (way.condition s e) (events way own me (k + 1) a (bump 0 1 s)) (events way own me (k + 1 + size a) b (bump 0 1 s))
  events_one way own me k (Task d b) s =
      event (s.tasks + 1) k (Begins me d) [] ∷ events way (Some d) (s.tasks + 1) (k + 1) b (bump 1 1 s)
  events_one way own me k (Wait w) s = event me k (Awaits w) [] ∷ []
  events_one way own me k (Group o cs b) s =
      let inside = events way own me (k + 1) b (bump 0 1 s) in
      inside ++ event me k (Leaves (length inside)) (map (use_as Writes) cs) ∷ []

  pub events : Way → Declared → ℕ → ℕ → Body → State → List Event
  events way own me k End s = []
  events way own me k (Next x rest) s = events_one way own me k x s ++ events way own me (k + size_one x) rest (after_one way x s)

-- the events of a program that begins with these cells; its own body is task 0, and its places are numbered from 1
abbrev pub beginning : List (List ℕ) → State
beginning cells = record { cells = cells; tasks = 0; units = 0 }

abbrev pub events_of : Way → Body → List (List ℕ) → List Event
events_of way body cells = events way None 0 1 body (beginning cells)
