-- The children of each body that a run executes.
use Rattle.std.specs.Prelude.{ℕ, ◌+◌, nat_le, Bool, not, List, [], ◌∷◌, ◌++◌, Option, ◌≡◌, zero, suc, ◌==◌, ◌&&◌, true, false, if◌then◌else◌}
use Rattle.std.specs.List.{filter, list_any}
use Rattle.ot_model.specs.Tree.{S, Set, Fold, If, Task, Wait, Group, Body, End, Next, size, size_one, val}
use Rattle.ot_model.specs.Cells.{cell_of}
use Rattle.ot_model.specs.Serial.{State, bump, either, serial_one}
use Rattle.ot_model.specs.declared.stmt.Use.{Use}
use Rattle.ot_check.specs.Offences.{awaits}
use Rattle.ot_show_graph.specs.Created.{Created, Passed, Creates, Awaits, Enters, Leaves, Kin}

-- the task that the task statement at a place creates, where it is run from this state
abbrev pub created_at : ℕ → List Use → State → Created
created_at place uses s = record { number = s.tasks + 1; place = place; uses = uses }

-- The children that a body creates, in the order of their creation, where it is run from this state: those of the taken
-- body of each `if`, and of groups. A statement stands at a place before those in its bodies, and the first body of
-- an `if` before the second.
abbrev mutual
  pub children_one : ℕ → S → State → List Created
  children_one k (Set c e) s = []
  children_one k (Fold o c e) s = []
  children_one k (If e a b) s =
      either (val (cell_of s.cells) e) (children_in (k + 1) a (bump 0 1 s)) (children_in (k + 1 + size a) b (bump 0 1 s))
  children_one k (Task d b) s = created_at k d s ∷ []
  children_one k (Wait w) s = []
  children_one k (Group o cs b) s = children_in (k + 1) b (bump 0 1 s)

  pub children_in : ℕ → Body → State → List Created
  children_in k End s = []
  children_in k (Next x rest) s = children_one k x s ++ children_in (k + size_one x) rest (serial_one x s)

-- the children of the body of a task, whose statement stands at this place, where the body is run from this state: the task is
-- then the last that was created
abbrev pub kin_within : ℕ → Body → State → Kin
kin_within k b s = record { parent = s.tasks; children = children_in (k + 1) b s }

-- the children of the bodies of the tasks that are run in a body, each behind those of the tasks in it
abbrev mutual
  pub inside_one : ℕ → S → State → List Kin
  inside_one k (Set c e) s = []
  inside_one k (Fold o c e) s = []
  inside_one k (If e a b) s =
      either (val (cell_of s.cells) e) (inside (k + 1) a (bump 0 1 s)) (inside (k + 1 + size a) b (bump 0 1 s))
  inside_one k (Task d b) s = inside (k + 1) b (bump 1 1 s) ++ kin_within k b (bump 1 1 s) ∷ []
  inside_one k (Wait w) s = []
  inside_one k (Group o cs b) s = inside (k + 1) b (bump 0 1 s)

  pub inside : ℕ → Body → State → List Kin
  inside k End s = []
  inside k (Next x rest) s = inside_one k x s ++ inside (k + size_one x) rest (serial_one x s)

-- before a run from these cells
abbrev pub state_begun : List (List ℕ) → State
state_begun cells = record { cells = cells; tasks = 0; units = 0 }

-- the children of each body of a program that is run from these cells, those of the program's own last
abbrev pub families : Body → List (List ℕ) → List Kin
families body cells =
    inside 1 body (state_begun cells) ++ record { parent = 0; children = children_in 1 body (state_begun cells) } ∷ []

-- one task more
abbrev pub task_entered : State → State
task_entered s = record s { tasks = s.tasks + 1 }

-- What a run passes, in its order, with the children that each wait awaits.

-- whether a wait that declares this, if it does, awaits the child, or leaves it (OpenMP API 5.2, sections 15.5, 15.9.5)
abbrev pub takes_child : Option (List Use) → Created → Bool
takes_child wait child = awaits wait child.uses

abbrev pub spares : Option (List Use) → Created → Bool
spares wait child = not (takes_child wait child)

-- whether it is one of the first so many tasks
abbrev pub is_within : ℕ → Created → Bool
is_within tasks child = nat_le child.number tasks

-- The children of a body that nothing has awaited behind a statement of it, where these are so before it: a task statement
-- adds a child, a wait takes those that it awaits, and the end of a group takes all that were created in it
-- (OpenMP API 5.2, sections 12.5, 15.5, 15.4). What the body of a child creates and awaits is its own.
abbrev mutual
  pub unawaited_one : ℕ → S → State → List Created → List Created
  unawaited_one k (Set c e) s pending = pending
  unawaited_one k (Fold o c e) s pending = pending
  unawaited_one k (If e a b) s pending =
      either (val (cell_of s.cells) e) (children_unawaited (k + 1) a (bump 0 1 s) pending) (children_unawaited (k + 1 + size a) b (bump 0 1 s) pending)
  unawaited_one k (Task d b) s pending = pending ++ created_at k d s ∷ []
  unawaited_one k (Wait w) s pending = filter (spares w) pending
  unawaited_one k (Group o cs b) s pending = filter (is_within s.tasks) (children_unawaited (k + 1) b (bump 0 1 s) pending)

  pub children_unawaited : ℕ → Body → State → List Created → List Created
  children_unawaited k End s pending = pending
  children_unawaited k (Next x rest) s pending = children_unawaited (k + size_one x) rest (serial_one x s) (unawaited_one k x s pending)

-- What the body of the task of a number passes, where these of its children are unawaited before it: each child is created
-- before its body is run, and a wait awaits those of them that it takes.
abbrev mutual
  pub passes_one : ℕ → ℕ → S → State → List Created → List Passed
  passes_one own k (Set c e) s pending = []
  passes_one own k (Fold o c e) s pending = []
  passes_one own k (If e a b) s pending =
      either (val (cell_of s.cells) e) (passes own (k + 1) a (bump 0 1 s) pending) (passes own (k + 1 + size a) b (bump 0 1 s) pending)
  passes_one own k (Task d b) s pending = Creates own (created_at k d s) ∷ passes (s.tasks + 1) (k + 1) b (bump 1 1 s) []
  passes_one own k (Wait w) s pending = Awaits own w (filter (takes_child w) pending) ∷ []
  passes_one own k (Group o cs b) s pending = Enters o cs ∷ (passes own (k + 1) b (bump 0 1 s) pending ++ Leaves ∷ [])

  pub passes : ℕ → ℕ → Body → State → List Created → List Passed
  passes own k End s pending = []
  passes own k (Next x rest) s pending =
      passes_one own k x s pending ++ passes own (k + size_one x) rest (serial_one x s) (unawaited_one k x s pending)

-- what a program passes that is run from these cells
abbrev pub passed_by : Body → List (List ℕ) → List Passed
passed_by body cells = passes 0 1 body (state_begun cells) []

-- Who is unawaited, by what has passed: the words of the standard for the children that a wait awaits.

-- whether these leave at most n of the groups that were open before them; a group that is entered in them may be left in them
abbrev pub stays_in_groups : ℕ → List Passed → Bool
stays_in_groups n [] = true
stays_in_groups n (Creates own c ∷ ms) = stays_in_groups n ms
stays_in_groups n (Awaits own w awaited ∷ ms) = stays_in_groups n ms
stays_in_groups n (Enters op cs ∷ ms) = stays_in_groups (suc n) ms
stays_in_groups zero (Leaves ∷ ms) = false
stays_in_groups (suc n) (Leaves ∷ ms) = stays_in_groups n ms

-- whether it is a wait of the task of this number that takes the child
abbrev pub is_wait_taking : ℕ → Created → Passed → Bool
is_wait_taking own child (Awaits other w awaited) = (other == own) && takes_child w child
is_wait_taking own child passed = false

-- the children of the task of this number that are unawaited behind these: neither a wait of the task that takes the child nor
-- the end of a group in which it was created stands behind its creation (OpenMP API 5.2, sections 15.4, 15.5)
abbrev pub unawaited_of : ℕ → List Passed → List Created
unawaited_of own [] = []
unawaited_of own (Creates other c ∷ ms) =
    if (other == own) && (stays_in_groups 0 ms && not (list_any (is_wait_taking own c) ms)) then c ∷ unawaited_of own ms else unawaited_of own ms
unawaited_of own (Awaits other w awaited ∷ ms) = unawaited_of own ms
unawaited_of own (Enters op cs ∷ ms) = unawaited_of own ms
unawaited_of own (Leaves ∷ ms) = unawaited_of own ms

-- each wait awaits those that it takes of the children of its task that are unawaited before it, in the order of their creation
abbrev pub AwaitExactly : List Passed → Type 0
AwaitExactly ms =
    (before later : List Passed) (own : ℕ) (w : Option (List Use)) (awaited : List Created) → ms ≡ before ++ Awaits own w awaited ∷ later
    → awaited ≡ filter (takes_child w) (unawaited_of own before)
