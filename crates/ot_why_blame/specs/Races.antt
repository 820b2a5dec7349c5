-- Which child is pending where a statement stands or a task ends, and where the two conflict.
use Rattle.std.specs.Prelude.{◌≡◌, true, ℕ, ◌+◌, ◌++◌, ◌⊎◌, Bool, not, ◌&&◌, List, Option, Some, None, ⊤, ◌∷◌, map}
use Rattle.std.specs.List.{list_any}
use Rattle.ot_model.specs.Tree.{S, Set, Fold, If, Task, Wait, Group, Body, End, Next, size, size_one}
use Rattle.ot_model.specs.Cells.{same_cell, conflicts}
use Rattle.ot_model.specs.declared.expr.Cell.{Cell}
use Rattle.ot_model.specs.declared.stmt.Use.{Use}
use Rattle.ot_check.specs.Offences.{Step, PassesOne, Passes, clashes, Create, At, touches, use_as, stays_within, is_awaited, Offends}
use Rattle.ot_model.specs.declared.stmt.Mode.TheVariants.{Writes}
use Rattle.ot_check.specs.declared.fault.Offence.{Offence}
use Rattle.ot_check.specs.declared.fault.Offence.TheVariants.{ConflictsWithChild, EndsWithChildren}

-- ---- who is pending

-- whether neither a wait that awaits a child with this declaration nor the end of a group that is open before them
-- stands in these steps
abbrev pub leaves_unawaited : List Use → List Step → Bool
leaves_unawaited declared steps = stays_within 0 steps && not (is_awaited declared steps)

-- the child that is created at this place, with this declaration, is unawaited behind these steps
pub record IsPending (steps : List Step) (child : ℕ) (declared : List Use) : Type 0 where
  pub before : List Step
  pub behind : List Step
  pub created : steps ≡ before ++ At child (Create declared) ∷ behind
  pub unawaited : leaves_unawaited declared behind ≡ true

-- on some path of the body the statement stands at the place, and this holds of the steps before it
pub record StandsAt (place : ℕ) (x : S) (Before : List Step → Type 0) (k : ℕ) (body : Body) : Type 0 where
  pub before : List Step
  pub own : List Step
  pub later : List Step
  pub passes : Passes k body (before ++ (own ++ later))
  pub stands : PassesOne place x own
  pub holds : Before before

-- on some path of the body the statement stands at the place, and the child is unawaited before it
abbrev pub Meets : ℕ → S → ℕ → List Use → ℕ → Body → Type 0
Meets place x child declared = StandsAt place x (λ steps. IsPending steps child declared)

-- P holds of the body of a task that stands in a body, however deep
abbrev mutual
  pub InTaskOne : (ℕ → Body → Type 0) → ℕ → S → Type 0
  InTaskOne P k (Set c e) = ⊥
  InTaskOne P k (Fold o c e) = ⊥
  InTaskOne P k (If e a b) = InTask P (k + 1) a ⊎ InTask P (k + 1 + size a) b
  InTaskOne P k (Task d b) = P (k + 1) b ⊎ InTask P (k + 1) b
  InTaskOne P k (Wait w) = ⊥
  InTaskOne P k (Group o cs b) = InTask P (k + 1) b

  pub InTask : (ℕ → Body → Type 0) → ℕ → Body → Type 0
  InTask P k End = ⊥
  InTask P k (Next x rest) = InTaskOne P k x ⊎ InTask P (k + size_one x) rest

-- P holds of a body, or of that of a task in it; P is told the place of the body's first statement
abbrev pub Somewhere : (ℕ → Body → Type 0) → ℕ → Body → Type 0
Somewhere P k body = P k body ⊎ InTask P k body

-- the statement stands at the place in a body, or in that of a task in it
abbrev pub IsAt : ℕ → S → Body → Type 0
IsAt place x body = Somewhere (StandsAt place x (λ steps. ⊤)) 1 body

-- ---- where they conflict

-- what a statement itself uses; a group that names cells writes them
abbrev pub uses_of : S → List Use
uses_of (Group o cs b) = map (use_as Writes) cs
uses_of x = touches x

-- whether the statement uses the cell in conflict with what a child declares
abbrev pub conflicts_at : Cell → S → List Use → Bool
conflicts_at cell x declared = list_any (λ u. same_cell u.cell cell && clashes u declared) (uses_of x)

-- In the program, where the statement stands at its place, the child is unawaited on some path, and the two conflict at the cell.
pub record Races (body : Body) (place : ℕ) (x : S) (child : ℕ) (declared : List Use) (cell : Cell) : Type 0 where
  pub meets : Somewhere (Meets place x child declared) 1 body
  pub conflicts : conflicts_at cell x declared ≡ true

-- ---- who is left

-- In the program a task stands at the place, and some path through its body ends with the child unawaited.
pub record LeavesChild (body : Body) (place : ℕ) (child : ℕ) (declared : List Use) : Type 0 where
  pub uses : List Use
  pub inside : Body
  pub task : IsAt place (Task uses inside) body
  pub path : List Step
  pub passes : Passes (place + 1) inside path
  pub pending : IsPending path child declared

-- Which other statement is named beside one that offends.

-- Of a conflict a child that is unawaited there on some path and conflicts at some cell; of a task a child that is unawaited
-- where some path through it ends. Nobody is named only where there is none. Of other offences nothing is said.
abbrev pub IsNamed : Body → ℕ → Offence → Option ℕ → Type 0
IsNamed body place ConflictsWithChild (Some child) = (x : S) × (declared : List Use) × (cell : Cell) × Races body place x child declared cell
IsNamed body place ConflictsWithChild None = Offends body place ConflictsWithChild → ⊥
IsNamed body place EndsWithChildren (Some child) = (declared : List Use) × LeavesChild body place child declared
IsNamed body place EndsWithChildren None = Offends body place EndsWithChildren → ⊥
IsNamed body place offence other = Unit {0}
