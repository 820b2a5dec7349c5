-- The first statement of a program that doesn't come back. Statements are counted from 1, one before those in its bodies, as in replies.
use Rattle.std.specs.Prelude.{◌≡◌, ◌≢◌, ◌⊎◌, ℕ, ◌+◌, Bool, true, false, ◌||◌, List, [], Option, Some, None, Result, Ok, Err, if◌then◌else◌}
use Rattle.ot_model.specs.Cells.{same_cell}
use Rattle.ot_model.specs.Tree.{E, CellAt, Apply, S, Set, Fold, If, Task, Wait, Group, Body, End, Next, size, size_one}
use Rattle.ot_model.specs.declared.expr.Cell.{Cell}
use Rattle.ot_model.specs.declared.expr.Op.{Op}
use Rattle.ot_model.specs.declared.expr.Op.TheVariants as o
use Rattle.ot_model.specs.declared.fold.Fold.{Fold as Operation}
use Rattle.ot_model.specs.declared.fold.Fold.TheVariants.{Plus, Min, Max}
use Rattle.ot_model.specs.declared.stmt.Use.{Use}
use Rattle.ot_show_c.specs.Laws.{is_nothing, normal_group}
use Rattle.ot_show_c.specs.Statements.{only_folds}
use Rattle.ot_c_printed.specs.declared.fault.NoC.{NoC}
use Rattle.ot_c_printed.specs.declared.fault.NoC.TheVariants as no

-- ---- what comes back of a program

-- the operation of a fold that is a function
unfoldable pub function_fold : Op → Option Operation
function_fold o.Min = Some Min
function_fold o.Max = Some Max
function_fold _ = None

-- by which operation a value is folded into a cell, unless the task only folds into its own copy by it
abbrev pub unless_own : List Use → Cell → E → Option Operation → Option (Operation × E)
unless_own own c e None = None
unless_own own c e (Some op) = if only_folds own op c then None else Some (op, e)

-- What is folded into a cell that is set to the least or greatest of itself and a value: C has one text for that and for the fold
-- that does the same, which is read as the fold.
unfoldable pub extreme_fold : List Use → Cell → E → Option (Operation × E)
extreme_fold own c (Apply op (CellAt d) e) = if same_cell c d then unless_own own c e (function_fold op) else None
extreme_fold own c e = None

abbrev pub set_told : Cell → E → Option (Operation × E) → S
set_told c e None = Set c e
set_told c e (Some x) = Fold x.0 c x.1

-- what comes back of a statement, or of a body, of a task with this declaration
abbrev mutual
  pub told_statement : List Use → S → S
  told_statement own (Set c e) = set_told c e (extreme_fold own c e)
  told_statement own (Fold op c e) = Fold op c e
  told_statement own (If e a b) = If e (told_body own a) (told_body own b)
  told_statement own (Task us b) = Task us (told_body us b)
  told_statement own (Group op cs b) = normal_group op cs (told_body own b)
  told_statement own (Wait w) = Wait w

  pub told_body : List Use → Body → Body
  told_body own End = End
  told_body own (Next s rest) = if is_nothing s then told_body own rest else Next (told_statement own s) (told_body own rest)

-- whether a group stands in a statement, in a body, outside of the tasks in it
abbrev mutual
  pub statement_has_group : S → Bool
  statement_has_group (Set c e) = false
  statement_has_group (Fold op c e) = false
  statement_has_group (If e a b) = body_has_group a || body_has_group b
  statement_has_group (Task us b) = false
  statement_has_group (Wait w) = false
  statement_has_group (Group op cs b) = true

  pub body_has_group : Body → Bool
  body_has_group End = false
  body_has_group (Next s rest) = statement_has_group s || body_has_group rest

-- a body in a group over nothing, at whose end all tasks have ended
abbrev pub in_group : Body → Body
in_group b = Next (Group Plus [] b) End

-- what comes back of a program's body where its region becomes a group, where it doesn't
abbrev pub returned_body : Bool → Body → Body
returned_body true b = in_group (told_body [] b)
returned_body false b = told_body [] b

-- What comes back of a program's body. Nothing follows its region, which becomes a group only where a group stands in it.
abbrev pub told_whole : Body → Body
told_whole b = returned_body (body_has_group b) b

-- ---- where that differs

-- a statement but for its bodies
abbrev pub without_bodies : S → S
without_bodies (If e a b) = If e End End
without_bodies (Task us b) = Task us End
without_bodies (Group op cs b) = Group op cs End
without_bodies s = s

-- Statement n is the first of a body, whose first one is number k, in a task with this declaration, that comes back as another one; or n
-- is the number behind them all, where more came back. For some statements nothing stands in C.
abbrev mutual
  pub BodiesApart : List Use → ℕ → Body → Body → ℕ → Type 0
  BodiesApart own k End End n = ⊥
  BodiesApart own k End (Next t others) n = n ≡ k
  BodiesApart own k (Next s rest) End n = ((is_nothing s ≡ true) × BodiesApart own (k + 1) rest End n) ⊎ ((is_nothing s ≡ false) × (n ≡ k))
  BodiesApart own k (Next s rest) (Next t others) n =
      ((is_nothing s ≡ true) × BodiesApart own (k + 1) rest (Next t others) n)
      ⊎ ((is_nothing s ≡ false)
      × ((((without_bodies (told_statement own s) ≢ without_bodies t) × (n ≡ k)) ⊎ ((without_bodies (told_statement own s) ≡ without_bodies t) × ApartWithin own (k + 1) s t n))
      ⊎ ((told_statement own s ≡ t) × BodiesApart own (k + size_one s) rest others n)))

  -- it is one in the bodies of a statement
  pub ApartWithin : List Use → ℕ → S → S → ℕ → Type 0
  ApartWithin own k (If e a b) (If f x y) n = BodiesApart own k a x n ⊎ ((told_body own a ≡ x) × BodiesApart own (k + size a) b y n)
  ApartWithin own k (Task us a) (Task vs x) n = BodiesApart us k a x n
  ApartWithin own k (Group op cs a) (Group o ds x) n = BodiesApart own k a x n
  ApartWithin own k s t n = ⊥

-- it is statement k itself, or one in its bodies
abbrev pub ApartAt : List Use → ℕ → S → S → ℕ → Type 0
ApartAt own k s t n = ((without_bodies (told_statement own s) ≢ without_bodies t) × (n ≡ k)) ⊎ ((without_bodies (told_statement own s) ≡ without_bodies t) × ApartWithin own (k + 1) s t n)

-- The same of whole bodies, of which the second is to be in a group; number 0 says that it isn't in one.
abbrev pub ApartInGroup : Body → Body → ℕ → Type 0
ApartInGroup b back n = ((n ≡ 0) × ((inside : Body) → back ≢ in_group inside)) ⊎ ((inside : Body) × (back ≡ in_group inside) × BodiesApart [] 1 b inside n)

-- the same where the region becomes a group, where it doesn't
abbrev pub ApartBy : Bool → Body → Body → ℕ → Type 0
ApartBy true b back n = ApartInGroup b back n
ApartBy false b back n = BodiesApart [] 1 b back n

-- the same of a program's body
abbrev pub ApartWhole : Body → Body → ℕ → Type 0
ApartWhole b back n = ApartBy (body_has_group b) b back n

-- ---- what is told of it

-- it tells a number of these, or want of memory, which says nothing
abbrev pub TellsOne : (ℕ → Type 0) → NoC → Type 0
TellsOne these (no.OtherProgram n) = these n
TellsOne these no.Memory = Unit {0}
TellsOne these fault = ⊥

-- where all comes back, the number behind it
abbrev pub Compares : List Use → ℕ → Body → Body → Result ℕ NoC → Type 0
Compares own k b back (Ok next) = (next ≡ k + size b) × (told_body own b ≡ back)
Compares own k b back (Err fault) = TellsOne (BodiesApart own k b back) fault

abbrev pub ComparesOne : List Use → ℕ → S → S → Result ℕ NoC → Type 0
ComparesOne own k s t (Ok next) = (next ≡ k + size_one s) × (told_statement own s ≡ t)
ComparesOne own k s t (Err fault) = TellsOne (ApartAt own k s t) fault

abbrev pub ComparesGroup : Body → Body → Result (Unit {0}) NoC → Type 0
ComparesGroup b back (Ok u) = back ≡ in_group (told_body [] b)
ComparesGroup b back (Err fault) = TellsOne (ApartInGroup b back) fault

abbrev pub ComparesFirst : Body → Body → Result (Unit {0}) NoC → Type 0
ComparesFirst b back (Ok u) = told_body [] b ≡ back
ComparesFirst b back (Err fault) = TellsOne (BodiesApart [] 1 b back) fault

abbrev pub ComparesBy : Bool → Body → Body → Result (Unit {0}) NoC → Type 0
ComparesBy true b back result = ComparesGroup b back result
ComparesBy false b back result = ComparesFirst b back result

abbrev pub ComparesWhole : Body → Body → Result (Unit {0}) NoC → Type 0
ComparesWhole b back result = ComparesBy (body_has_group b) b back result
