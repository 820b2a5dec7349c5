-- What a walk through a body carries: a child that may be unawaited.
use Rattle.std.specs.Prelude.{◌≡◌, ◌==◌, true, ℕ, ◌+◌, ◌++◌, ◌⊎◌, Bool, not, ◌&&◌, if◌then◌else◌, List, Option, Some, None, option_map, Result, Ok, Err}
use Rattle.std.specs.List.{list_any}
use Rattle.std.specs.Option.{option_or}
use Rattle.ot_model.specs.Tree.{S, Set, Fold, If, Task, Wait, Group, Body, End, Next, size, size_one}
use Rattle.ot_model.specs.View.{stmt_of}
use Rattle.ot_model.specs.Cells.{same_cell, conflicts}
use Rattle.ot_model.specs.declared.expr.Cell.{Cell}
use Rattle.ot_model.specs.declared.stmt.Mode.{Mode}
use Rattle.ot_model.specs.declared.stmt.Use.{Use}
use Rattle.ot_check.specs.Offences.{Step, PassesOne, Passes, awaits, clashes}
use Rattle.ot_check.specs.Discipline.{through}
use Rattle.ot_why_blame.specs.declared.child.Child.{Child}
use Rattle.ot_why_blame.specs.declared.walk.Search.{Search}
use Rattle.ot_why_blame.specs.declared.walk.Arrived.{Arrived}
use Rattle.ot_why_blame.specs.declared.walk.Behind.{Behind}
use Rattle.ot_why_blame.specs.Races.{InTask, InTaskOne, IsPending, StandsAt, uses_of}

-- the place and the declaration of a child, where there is one
abbrev pub Pending : Type 0
Pending = Option (ℕ × List Use)

abbrev pub pending_of : Option Child → Pending
pending_of child = option_map (λ (c : Child). (c.place, c.decl.now)) child

-- this holds of what the child, if any, declares
abbrev pub Declares : (List Use → Type 0) → Pending → Type 0
Declares P None = Unit {0}
Declares P (Some child) = P child.1

-- the child, if any, is unawaited behind these steps
abbrev pub Carried : List Step → Pending → Type 0
Carried steps None = Unit {0}
Carried steps (Some child) = IsPending steps child.0 child.1

-- behind steps at whose end the one is pending, some path leaves the other pending
abbrev pub Carries : (List Step → Type 0) → Pending → Pending → Type 0
Carries Path before after = (steps : List Step) → Carried steps before → (path : List Step) × Path path × Carried (steps ++ path) after

-- behind steps at whose end the one is pending, some path comes to the statement with the other pending
abbrev pub Reaches : (List Step → Type 0) → Pending → ℕ → S → Pending → Type 0
Reaches Path before place x now =
    (steps : List Step) → Carried steps before
    → (ahead : List Step) × (own : List Step) × (later : List Step) × Path (ahead ++ (own ++ later)) × PassesOne place x own × Carried (steps ++ ahead) now

-- some path of a body comes to the statement with the one pending
abbrev pub Comes : ℕ → S → Pending → ℕ → Body → Type 0
Comes place x now = StandsAt place x (λ steps. Carried steps now)

-- a walk from a body's first statement on comes to the statement, in the body or in a task in it
abbrev pub Arrives : ℕ → Body → Pending → ℕ → S → Pending → Type 0
Arrives k body before place x now = Reaches (Passes k body) before place x now ⊎ InTask (Comes place x now) k body

abbrev pub ArrivesOne : ℕ → S → Pending → ℕ → S → Pending → Type 0
ArrivesOne k y before place x now = Reaches (PassesOne k y) before place x now ⊎ InTaskOne (Comes place x now) k y

-- ---- the walk that carries one task

-- the child, where what it declares passes the test
abbrev pub only : (List Use → Bool) → Pending → Pending
only test None = None
only test (Some child) = if test child.1 then Some child else None

-- whether the task at this place, or else the child from before, is carried behind a statement, behind a body
abbrev mutual
  pub carried_one : ℕ → Pending → ℕ → S → Pending
  carried_one task before k (Set c e) = before
  carried_one task before k (Fold o c e) = before
  carried_one task before k (If e a b) = option_or (pending_carried task before (k + 1 + size a) b) (pending_carried task before (k + 1) a)
  carried_one task before k (Task d b) = if k == task then Some (k, d) else before
  carried_one task before k (Wait w) = only (λ d. not (awaits w d)) before
  carried_one task before k (Group o cs b) = only (λ d. through d b) before

  pub pending_carried : ℕ → Pending → ℕ → Body → Pending
  pending_carried task before k End = before
  pending_carried task before k (Next x rest) = pending_carried task (carried_one task before k x) (k + size_one x) rest

-- the statement at this place, with the child that is carried to it
abbrev mutual
  pub met_inside : ℕ → ℕ → Pending → ℕ → S → Option (S × Pending)
  met_inside place task before k (Set c e) = None
  met_inside place task before k (Fold o c e) = None
  met_inside place task before k (If e a b) = option_or (met_statement place task before (k + 1) a) (met_statement place task before (k + 1 + size a) b)
  met_inside place task before k (Task d b) = met_statement place task None (k + 1) b
  met_inside place task before k (Wait w) = None
  met_inside place task before k (Group o cs b) = met_statement place task before (k + 1) b

  pub met_statement : ℕ → ℕ → Pending → ℕ → Body → Option (S × Pending)
  met_statement place task before k End = None
  met_statement place task before k (Next x rest) =
      option_or (if k == place then Some (x, before) else met_inside place task before k x) (met_statement place task (carried_one task before k x) (k + size_one x) rest)

abbrev pub met_one : ℕ → ℕ → Pending → ℕ → S → Option (S × Pending)
met_one place task before k x = if k == place then Some (x, before) else met_inside place task before k x

-- what the code's walk tells is this
abbrev pub Follows : Pending → Option (S × Pending) → Result Behind Arrived → Type 0
Follows later here (Ok behind) = (pending_of behind.child ≡ later) × (here ≡ None)
Follows later here (Err at) = here ≡ Some (stmt_of at.stmt.now, pending_of at.child)

-- of a body, of a statement, and of a statement at another place
abbrev pub FollowsAll : Search → Pending → ℕ → Body → Result Behind Arrived → Type 0
FollowsAll search before k b result = Follows (pending_carried search.child before k b) (met_statement search.place search.child before k b) result

abbrev pub FollowsOne : Search → Pending → ℕ → S → Result Behind Arrived → Type 0
FollowsOne search before k x result = Follows (carried_one search.child before k x) (met_one search.place search.child before k x) result

abbrev pub FollowsInside : Search → Pending → ℕ → S → Result Behind Arrived → Type 0
FollowsInside search before k x result = Follows (carried_one search.child before k x) (met_inside search.place search.child before k x) result

-- the body of a task
abbrev pub inside_of : S → Option Body
inside_of (Task d b) = Some b
inside_of x = None

-- no walk comes to the statement at the place with the task at the other, in conflict with it
abbrev pub IsSpared : ℕ → ℕ → Body → Type 0
IsSpared place task body =
    (x : S) (child : ℕ × List Use) → met_statement place task None 1 body ≡ Some (x, Some child) → list_any (λ u. clashes u child.1) (uses_of x) ≡ true → ⊥

-- ---- uses

-- whether a use is one of the cell, in conflict with this mode
abbrev pub is_use_against : Mode → Cell → Use → Bool
is_use_against mode cell u = same_cell u.cell cell && conflicts mode u.mode
