-- The paths of a body, runs through it that take either body of each `if`: the definition as it was before the second profile.
use Rattle.std.specs.Prelude.{◌≡◌, ◌≢◌, ℕ, zero, suc, ◌+◌, ◌++◌, ◌⊎◌, Bool, true, false, not, ◌&&◌, ◌||◌, if◌then◌else◌, List, [], ◌∷◌, Option, Some, None, map}
use Rattle.std.specs.List.{list_any}
use Rattle.ot_model.specs.Cells.{same_cell}
use Rattle.ot_model.specs.declared.expr.Cell.{Cell}
use Rattle.ot_law_profile1.specs.Tree.{Mode1, Reads1, Writes1, Adds1, Use1, conflicts1, is_adds1, S1, Set1, Add1, If1, Task1, Wait1, Group1, Body1, End1, Next1, size1, size_one1}
use Rattle.ot_check.specs.Offences.{has_cell}
use Rattle.ot_check.specs.declared.fault.Offence.{Offence}
use Rattle.ot_check.specs.declared.fault.Offence.TheVariants.{NotDeclared, ChildBeyond, ReductionMisuse, ConflictsWithChild, EndsWithChildren}
use Rattle.ot_model.specs.Tree.{cells_named}

-- what a path passes: a use of a cell, a child's creation, a wait, the beginning and the end of a group
pub data Mark1 : Type 0 where
  Touch1 : Use1 → Mark1
  Create1 : List Use1 → Mark1
  Await1 : Mark1
  Enter1 : List Cell → Mark1
  Leave1 : Mark1

-- a mark, and the place of its statement
pub data Step1 : Type 0 where
  At1 : ℕ → Mark1 → Step1

-- the cell, used in this mode
abbrev pub use_as1 : Mode1 → Cell → Use1
use_as1 mode cell = record { cell = cell; mode = mode }

-- what a statement itself does with cells
abbrev pub touches1 : S1 → List Use1
touches1 (Set1 c e) = map (use_as1 Reads1) (cells_named e) ++ use_as1 Writes1 c ∷ []
touches1 (Add1 c e) = map (use_as1 Reads1) (cells_named e) ++ use_as1 Adds1 c ∷ []
touches1 (If1 e a b) = map (use_as1 Reads1) (cells_named e)
touches1 _ = []

abbrev pub touched1 : ℕ → List Use1 → List Step1
touched1 k uses = map (λ u. At1 k (Touch1 u)) uses

-- Whether a path goes through a statement, or a body, whose place is k. Places are numbers of
-- statements, each before the statements of its bodies. The body of a task has paths of its own: on
-- its parent's path the task is one mark.
abbrev mutual
  pub PassesOne1 : ℕ → S1 → List Step1 → Type 0
  PassesOne1 k (Set1 c e) path = path ≡ touched1 k (touches1 (Set1 c e))
  PassesOne1 k (Add1 c e) path = path ≡ touched1 k (touches1 (Add1 c e))
  PassesOne1 k (If1 e a b) path =
      (inside : List Step1) × (path ≡ touched1 k (touches1 (If1 e a b)) ++ inside) × (Passes1 (k + 1) a inside ⊎ Passes1 (k + 1 + size1 a) b inside)
  PassesOne1 k (Task1 d b) path = path ≡ At1 k (Create1 d) ∷ []
  PassesOne1 k Wait1 path = path ≡ At1 k Await1 ∷ []
  PassesOne1 k (Group1 cs b) path = (inside : List Step1) × (path ≡ At1 k (Enter1 cs) ∷ (inside ++ At1 k Leave1 ∷ [])) × Passes1 (k + 1) b inside

  pub Passes1 : ℕ → Body1 → List Step1 → Type 0
  Passes1 k End1 path = path ≡ []
  Passes1 k (Next1 x rest) path = (one : List Step1) × (later : List Step1) × (path ≡ one ++ later) × PassesOne1 k x one × Passes1 (k + size_one1 x) rest later

-- What is an offence on a path: the definition as it was before the second profile.

-- ---- what a body may do

-- whether a declaration of a cell in the one mode lets it be used in the other
abbrev pub covers1 : Mode1 → Mode1 → Bool
covers1 Writes1 wanted = true
covers1 Reads1 Reads1 = true
covers1 Adds1 Adds1 = true
covers1 declared wanted = false

-- what a body declares: the root's has no list and every cell as Writes
abbrev pub Declared1 : Type 0
Declared1 = Option (List Use1)

-- whether the body declares the cell in a mode that lets it be used so
abbrev pub allows1 : Declared1 → Use1 → Bool
allows1 None u = true
allows1 (Some uses) u = list_any (λ d. same_cell d.cell u.cell && covers1 d.mode u.mode) uses

-- whether the body declares the cell as Adds
abbrev pub adds_to1 : Declared1 → Cell → Bool
adds_to1 None c = false
adds_to1 (Some uses) c = list_any (λ d. same_cell d.cell c && is_adds1 d.mode) uses

-- whether a child's use goes beyond what the body declares
abbrev pub exceeds1 : Declared1 → Use1 → Bool
exceeds1 own u = not (is_adds1 u.mode) && not (allows1 own u)

-- whether a child's use doesn't fit the reductions that are open in the body: it adds where there is
-- none, or does something else where there is one
abbrev pub misfits1 : Declared1 → (Cell → Bool) → Use1 → Bool
misfits1 own opened u = if is_adds1 u.mode then not (adds_to1 own u.cell) && not (opened u.cell) else opened u.cell

-- whether a use conflicts with one that a child declares
abbrev pub clashes1 : Use1 → List Use1 → Bool
clashes1 u child = list_any (λ d. same_cell d.cell u.cell && conflicts1 d.mode u.mode) child

-- ---- what stands open at a place of a path

-- whether these steps leave at most n of the groups that were open before them; a group that is
-- entered in them may be left in them
abbrev pub stays_within1 : ℕ → List Step1 → Bool
stays_within1 n [] = true
stays_within1 n (At1 k (Touch1 u) ∷ path) = stays_within1 n path
stays_within1 n (At1 k (Create1 d) ∷ path) = stays_within1 n path
stays_within1 n (At1 k Await1 ∷ path) = stays_within1 n path
stays_within1 n (At1 k (Enter1 cs) ∷ path) = stays_within1 (suc n) path
stays_within1 zero (At1 k Leave1 ∷ path) = false
stays_within1 (suc n) (At1 k Leave1 ∷ path) = stays_within1 n path

abbrev pub is_wait1 : Step1 → Bool
is_wait1 (At1 k Await1) = true
is_wait1 _ = false

abbrev pub has_wait1 : List Step1 → Bool
has_wait1 path = list_any is_wait1 path

-- the children that are unawaited behind these steps, each by what it declares: neither a wait nor the
-- end of a group in which it was created stands behind its creation (OpenMP API 5.2, sections 15.4, 15.5)
abbrev pub unawaited1 : List Step1 → List (List Use1)
unawaited1 [] = []
unawaited1 (At1 k (Touch1 u) ∷ path) = unawaited1 path
unawaited1 (At1 k (Create1 d) ∷ path) = if stays_within1 0 path && not (has_wait1 path) then d ∷ unawaited1 path else unawaited1 path
unawaited1 (At1 k Await1 ∷ path) = unawaited1 path
unawaited1 (At1 k (Enter1 cs) ∷ path) = unawaited1 path
unawaited1 (At1 k Leave1 ∷ path) = unawaited1 path

-- whether a group that names the cell is open behind these steps
abbrev pub is_open1 : List Step1 → Cell → Bool
is_open1 [] c = false
is_open1 (At1 k (Touch1 u) ∷ path) c = is_open1 path c
is_open1 (At1 k (Create1 d) ∷ path) c = is_open1 path c
is_open1 (At1 k Await1 ∷ path) c = is_open1 path c
is_open1 (At1 k (Enter1 cs) ∷ path) c = (has_cell cs c && stays_within1 0 path) || is_open1 path c
is_open1 (At1 k Leave1 ∷ path) c = is_open1 path c

-- ---- offences

-- Whether a mark is this offence, in a body that declares this, where these groups are open and these
-- children unawaited.
abbrev pub breaks1 : Declared1 → (Cell → Bool) → List (List Use1) → Mark1 → Offence → Bool
breaks1 own opened children (Touch1 u) NotDeclared = not (allows1 own u)
breaks1 own opened children (Touch1 u) ReductionMisuse = opened u.cell
breaks1 own opened children (Touch1 u) ConflictsWithChild = list_any (clashes1 u) children
breaks1 own opened children (Create1 d) ChildBeyond = list_any (exceeds1 own) d
breaks1 own opened children (Create1 d) ReductionMisuse = list_any (misfits1 own opened) d
breaks1 own opened children (Enter1 cs) ReductionMisuse = list_any (λ c. not (allows1 own (use_as1 Writes1 c)) || opened c) cs
breaks1 own opened children (Enter1 cs) ConflictsWithChild = list_any (λ c. list_any (clashes1 (use_as1 Writes1 c)) children) cs
breaks1 own opened children mark offence = false

-- on some path of the body a statement of this place is this offence
abbrev pub OnPath1 : ℕ → Body1 → Declared1 → ℕ → Offence → Type 0
OnPath1 k body own place offence =
    (before : List Step1) × (later : List Step1) × (mark : Mark1) × Passes1 k body (before ++ At1 place mark ∷ later)
    × (breaks1 own (is_open1 before) (unawaited1 before) mark offence ≡ true)

-- some path of the body ends with a child unawaited
abbrev pub CanEndWithChildren1 : ℕ → Body1 → Type 0
CanEndWithChildren1 k body = (path : List Step1) × Passes1 k body path × (unawaited1 path ≢ [])

-- the offence is in the body of a task that stands in this one, or is that this body ends with a child unawaited
abbrev mutual
  pub InTasksOfOne1 : ℕ → S1 → ℕ → Offence → Type 0
  InTasksOfOne1 k (Set1 c e) place offence = ⊥
  InTasksOfOne1 k (Add1 c e) place offence = ⊥
  InTasksOfOne1 k (If1 e a b) place offence = InTasks1 (k + 1) a place offence ⊎ InTasks1 (k + 1 + size1 a) b place offence
  InTasksOfOne1 k (Task1 d b) place offence =
      ((place ≡ k) × (offence ≡ EndsWithChildren) × CanEndWithChildren1 (k + 1) b)
      ⊎ (OnPath1 (k + 1) b (Some d) place offence ⊎ InTasks1 (k + 1) b place offence)
  InTasksOfOne1 k Wait1 place offence = ⊥
  InTasksOfOne1 k (Group1 cs b) place offence = InTasks1 (k + 1) b place offence

  pub InTasks1 : ℕ → Body1 → ℕ → Offence → Type 0
  InTasks1 k End1 place offence = ⊥
  InTasks1 k (Next1 x rest) place offence = InTasksOfOne1 k x place offence ⊎ InTasks1 (k + size_one1 x) rest place offence

-- a program's offences: those of the root's paths, and those of all tasks; places are numbered from 1
abbrev pub Offends1 : Body1 → ℕ → Offence → Type 0
Offends1 body place offence = OnPath1 1 body None place offence ⊎ InTasks1 1 body place offence
