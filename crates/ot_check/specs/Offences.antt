-- The paths of a body: runs through it that take either body of each `if`, whatever the values.
use Rattle.std.specs.Prelude.{◌≡◌, ◌≢◌, ℕ, zero, suc, ◌+◌, ◌<◌, ◌≤◌, ◌++◌, ◌⊎◌, Bool, true, false, not, ◌&&◌, ◌||◌, if◌then◌else◌, List, [], ◌∷◌, Option, Some, None, map, Result, Ok, Err, ◌%◌}
use Rattle.std.specs.List.{list_any}
use Rattle.ot_model.specs.Tree.{S, Set, Fold, If, Task, Wait, Group, Body, End, Next, size, size_one, E, Literal, CellAt, Apply, PickFrom, cell_at}
use Rattle.ot_model.specs.Cells.{same_cell, conflicts, depends_on, is_fold, same_fold}
use Rattle.ot_model.specs.declared.expr.Cell.{Cell}
use Rattle.ot_model.specs.declared.fold.Fold.{Fold as Operation}
use Rattle.ot_model.specs.declared.fold.Fold.TheVariants.{Plus, Times, And, Or, Xor, Min, Max}
use Rattle.ot_model.specs.declared.stmt.Mode.{Mode}
use Rattle.ot_model.specs.declared.stmt.Mode.TheVariants.{Reads, Writes, Folds}
use Rattle.ot_model.specs.declared.stmt.Use.{Use}
use Rattle.ot_check.specs.declared.fault.Offence.{Offence}
use Rattle.ot_check.specs.declared.fault.Offence.TheVariants.{NotDeclared, ChildBeyond, ReductionMisuse, ConflictsWithChild, EndsWithChildren}
use Rattle.ot_check.specs.declared.fault.CheckFault.{CheckFault}
use Rattle.ot_check.specs.declared.fault.CheckFault.TheVariants as fault
-- a cell, used in a mode; what a statement itself does with cells; whether a mode is Folds of an operation; what a body
-- declares; whether it declares a cell so
pub use Rattle.ot_parts.specs.Modes.{use_as, touches, folds_by, Declared, folds_to}

-- what a path passes: a use of a cell, a child's creation, a wait and what it declares, if it does, the beginning and the end of a group
pub data Mark : Type 0 where
  Touch : Use → Mark
  Create : List Use → Mark
  Await : Option (List Use) → Mark
  Enter : Operation → List Cell → Mark
  Leave : Mark

-- a mark, and the place of its statement
pub data Step : Type 0 where
  At : ℕ → Mark → Step

abbrev pub touch_steps : ℕ → List Use → List Step
touch_steps k uses = map (λ u. At k (Touch u)) uses

-- Whether a path goes through a statement, or a body, whose place is k. Places are numbers of
-- statements, each before the statements of its bodies. The body of a task has paths of its own: on
-- its parent's path the task is one mark.
abbrev mutual
  pub PassesOne : ℕ → S → List Step → Type 0
  PassesOne k (Set c e) path = path ≡ touch_steps k (touches (Set c e))
  PassesOne k (Fold o c e) path = path ≡ touch_steps k (touches (Fold o c e))
  PassesOne k (If e a b) path =
      (inside : List Step) × (path ≡ touch_steps k (touches (If e a b)) ++ inside) × (Passes (k + 1) a inside ⊎ Passes (k + 1 + size a) b inside)
  PassesOne k (Task d b) path = path ≡ At k (Create d) ∷ []
  PassesOne k (Wait w) path = path ≡ At k (Await w) ∷ []
  PassesOne k (Group o cs b) path = (inside : List Step) × (path ≡ At k (Enter o cs) ∷ (inside ++ At k Leave ∷ [])) × Passes (k + 1) b inside

  pub Passes : ℕ → Body → List Step → Type 0
  Passes k End path = path ≡ []
  Passes k (Next x rest) path = (one : List Step) × (later : List Step) × (path ≡ one ++ later) × PassesOne k x one × Passes (k + size_one x) rest later

-- What is an offence on a path, and which offence of a body is the first.

-- ---- what a body may do

-- whether a cell is one of these
abbrev pub has_cell : List Cell → Cell → Bool
has_cell cells c = list_any (λ d. same_cell d c) cells

-- whether a declaration of a cell in the one mode lets it be used in the other
abbrev pub covers : Mode → Mode → Bool
covers Writes wanted = true
covers Reads Reads = true
covers (Folds one) (Folds other) = same_fold one other
covers declared wanted = false

-- whether the body declares the cell in a mode that lets it be used so
abbrev pub allows : Declared → Use → Bool
allows None u = true
allows (Some uses) u = list_any (λ d. same_cell d.cell u.cell && covers d.mode u.mode) uses

-- whether a child's use goes beyond what the body declares
abbrev pub exceeds : Declared → Use → Bool
exceeds own u = not (is_fold u.mode) && not (allows own u)

-- the cells that open groups name, by their operations
abbrev pub Openings : Type 0
Openings = Operation → Cell → Bool

-- whether an open group names the cell, whatever its operation
unfoldable pub opened_by_any : Openings → Cell → Bool
opened_by_any opened c = list_any (λ o. opened o c) (Plus ∷ Times ∷ And ∷ Or ∷ Xor ∷ Min ∷ Max ∷ [])

abbrev pub misfits_as : Mode → Declared → Openings → Cell → Bool
misfits_as (Folds o) own opened c = not (folds_to own o c) && not (opened o c)
misfits_as mode own opened c = opened_by_any opened c

-- whether a child's use doesn't fit the reductions that are open in the body: it folds where there is none by
-- its operation, or does something else where there is one
abbrev pub misfits : Declared → Openings → Use → Bool
misfits own opened u = misfits_as u.mode own opened u.cell

-- whether a use conflicts with one that a child declares
abbrev pub clashes : Use → List Use → Bool
clashes u child = list_any (λ d. same_cell d.cell u.cell && conflicts d.mode u.mode) child

-- ---- what stands open at a place of a path

-- whether these steps leave at most n of the groups that were open before them; a group that is
-- entered in them may be left in them
abbrev pub stays_within : ℕ → List Step → Bool
stays_within n [] = true
stays_within n (At k (Touch u) ∷ path) = stays_within n path
stays_within n (At k (Create d) ∷ path) = stays_within n path
stays_within n (At k (Await w) ∷ path) = stays_within n path
stays_within n (At k (Enter o cs) ∷ path) = stays_within (suc n) path
stays_within zero (At k Leave ∷ path) = false
stays_within (suc n) (At k Leave ∷ path) = stays_within n path

-- whether a wait awaits a child with this declaration: one that declares nothing awaits each, one that declares
-- cells those on which an empty task with its declaration would depend (OpenMP API 5.2, sections 15.5, 15.9.5)
abbrev pub awaits : Option (List Use) → List Use → Bool
awaits None child = true
awaits (Some uses) child = depends_on child uses

abbrev pub is_wait_for : List Use → Step → Bool
is_wait_for child (At k (Await w)) = awaits w child
is_wait_for child _ = false

-- whether one of these steps is a wait that awaits it
abbrev pub is_awaited : List Use → List Step → Bool
is_awaited child path = list_any (is_wait_for child) path

-- the children that are unawaited behind these steps, each by what it declares: neither a wait that awaits it nor
-- the end of a group in which it was created stands behind its creation (OpenMP API 5.2, sections 15.4, 15.5)
abbrev pub unawaited_uses : List Step → List (List Use)
unawaited_uses [] = []
unawaited_uses (At k (Touch u) ∷ path) = unawaited_uses path
unawaited_uses (At k (Create d) ∷ path) = if stays_within 0 path && not (is_awaited d path) then d ∷ unawaited_uses path else unawaited_uses path
unawaited_uses (At k (Await w) ∷ path) = unawaited_uses path
unawaited_uses (At k (Enter o cs) ∷ path) = unawaited_uses path
unawaited_uses (At k Leave ∷ path) = unawaited_uses path

-- whether a group by this operation that names the cell is open behind these steps
abbrev pub is_open : List Step → Openings
is_open [] o c = false
is_open (At k (Touch u) ∷ path) o c = is_open path o c
is_open (At k (Create d) ∷ path) o c = is_open path o c
is_open (At k (Await w) ∷ path) o c = is_open path o c
is_open (At k (Enter by cs) ∷ path) o c = (same_fold by o && has_cell cs c && stays_within 0 path) || is_open path o c
is_open (At k Leave ∷ path) o c = is_open path o c

-- ---- offences

-- Whether a mark is this offence, in a body that declares this, where these groups are open and these
-- children unawaited.
abbrev pub breaks : Declared → Openings → List (List Use) → Mark → Offence → Bool
breaks own opened children (Touch u) NotDeclared = not (allows own u)
breaks own opened children (Touch u) ReductionMisuse = opened_by_any opened u.cell
breaks own opened children (Touch u) ConflictsWithChild = list_any (clashes u) children
breaks own opened children (Create d) ChildBeyond = list_any (exceeds own) d
breaks own opened children (Create d) ReductionMisuse = list_any (misfits own opened) d
breaks own opened children (Enter o cs) ReductionMisuse = list_any (λ c. not (allows own (use_as Writes c)) || opened_by_any opened c) cs
breaks own opened children (Enter o cs) ConflictsWithChild = list_any (λ c. list_any (clashes (use_as Writes c)) children) cs
breaks own opened children mark offence = false

-- on some path of the body a statement of this place is this offence
abbrev pub OnPath : ℕ → Body → Declared → ℕ → Offence → Type 0
OnPath k body own place offence =
    (before : List Step) × (later : List Step) × (mark : Mark) × Passes k body (before ++ At place mark ∷ later)
    × (breaks own (is_open before) (unawaited_uses before) mark offence ≡ true)

-- some path of the body ends with a child unawaited
abbrev pub CanEndWithChildren : ℕ → Body → Type 0
CanEndWithChildren k body = (path : List Step) × Passes k body path × (unawaited_uses path ≢ [])

-- the offence is in the body of a task that stands in this one, or is that this body ends with a child unawaited
abbrev mutual
  pub InTasksOfOne : ℕ → S → ℕ → Offence → Type 0
  InTasksOfOne k (Set c e) place offence = ⊥
  InTasksOfOne k (Fold o c e) place offence = ⊥
  InTasksOfOne k (If e a b) place offence = InTasks (k + 1) a place offence ⊎ InTasks (k + 1 + size a) b place offence
  InTasksOfOne k (Task d b) place offence =
      ((place ≡ k) × (offence ≡ EndsWithChildren) × CanEndWithChildren (k + 1) b)
      ⊎ (OnPath (k + 1) b (Some d) place offence ⊎ InTasks (k + 1) b place offence)
  InTasksOfOne k (Wait w) place offence = ⊥
  InTasksOfOne k (Group o cs b) place offence = InTasks (k + 1) b place offence

  pub InTasks : ℕ → Body → ℕ → Offence → Type 0
  InTasks k End place offence = ⊥
  InTasks k (Next x rest) place offence = InTasksOfOne k x place offence ⊎ InTasks (k + size_one x) rest place offence

-- a program's offences: those of the root's paths, and those of all tasks; places are numbered from 1
abbrev pub Offends : Body → ℕ → Offence → Type 0
Offends body place offence = OnPath 1 body None place offence ⊎ InTasks 1 body place offence

-- a place in the order in which one place's offences are told
abbrev pub rank : Offence → ℕ
rank NotDeclared = 0
rank ChildBeyond = 1
rank ReductionMisuse = 2
rank ConflictsWithChild = 3
rank EndsWithChildren = 4

-- what is told is the offence of least place, and there the first of the order; nothing is told where there is none
abbrev pub IsFirstOf : (ℕ → Offence → Type 0) → Option (ℕ × Offence) → Type 0
IsFirstOf Holds None = (place : ℕ) (offence : Offence) → Holds place offence → ⊥
IsFirstOf Holds (Some first) =
    Holds first.0 first.1
    × ((place : ℕ) (offence : Offence) → Holds place offence → (first.0 < place) ⊎ ((first.0 ≡ place) × (rank first.1 ≤ rank offence)))

-- The numbers of offences, and what a check tells.

abbrev pub code_of : Offence → ℕ
code_of NotDeclared = 425
code_of ChildBeyond = 426
code_of ConflictsWithChild = 427
code_of EndsWithChildren = 428
code_of ReductionMisuse = 429

-- what a check tells is the first offence, and it says yes where there is none; want of memory says nothing
abbrev pub TellsFirst : {A : Type 0} → (ℕ → Offence → Type 0) → Result A CheckFault → Type 0
TellsFirst Holds (Ok x) = IsFirstOf Holds None
TellsFirst Holds (Err (fault.Offence offence place)) = IsFirstOf Holds (Some (place, offence))
TellsFirst Holds (Err fault.Memory) = Unit {0}

-- What a body does with cells, in its tasks too.

-- P holds of each cell that the value may read
abbrev pub EachRead : (Cell → Type 0) → E → Type 0
EachRead P (Literal n) = Unit {0}
EachRead P (CellAt c) = P c
EachRead P (Apply o a b) = EachRead P a × EachRead P b
EachRead P (PickFrom s e) = ((k : ℕ) → P (cell_at s (k % s.len))) × EachRead P e

-- P holds of each touch of the body, those in its tasks among them
abbrev mutual
  pub EachTouchOne : (Use → Type 0) → S → Type 0
  EachTouchOne P (Set c e) = EachRead (λ d. P (use_as Reads d)) e × P (use_as Writes c)
  EachTouchOne P (Fold o c e) = EachRead (λ d. P (use_as Reads d)) e × P (use_as (Folds o) c)
  EachTouchOne P (If e a b) = EachRead (λ d. P (use_as Reads d)) e × EachTouch P a × EachTouch P b
  EachTouchOne P (Task d b) = EachTouch P b
  EachTouchOne P (Wait w) = Unit {0}
  EachTouchOne P (Group o cs b) = EachTouch P b

  pub EachTouch : (Use → Type 0) → Body → Type 0
  EachTouch P End = Unit {0}
  EachTouch P (Next x rest) = EachTouchOne P x × EachTouch P rest

-- P holds of each task that stands in the body, however deep, with what it declares
abbrev mutual
  pub EachTaskOne : (List Use → Body → Type 0) → S → Type 0
  EachTaskOne P (Set c e) = Unit {0}
  EachTaskOne P (Fold o c e) = Unit {0}
  EachTaskOne P (If e a b) = EachTask P a × EachTask P b
  EachTaskOne P (Task d b) = P d b × EachTask P b
  EachTaskOne P (Wait w) = Unit {0}
  EachTaskOne P (Group o cs b) = EachTask P b

  pub EachTask : (List Use → Body → Type 0) → Body → Type 0
  EachTask P End = Unit {0}
  EachTask P (Next x rest) = EachTaskOne P x × EachTask P rest

-- uses that don't conflict
abbrev pub Agree : Use → Use → Type 0
Agree u v = u.cell ≡ v.cell → conflicts u.mode v.mode ≡ false

-- no touch of the one conflicts with a touch of the other
abbrev pub AreApart : Body → Body → Type 0
AreApart a b = EachTouch (λ u. EachTouch (Agree u) b) a
