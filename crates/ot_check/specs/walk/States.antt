-- What the walk knows at a place, and what it stands for.
use Rattle.std.specs.Prelude.{◌≡◌, ℕ, suc, ◌≤◌, ◌++◌, Bool, false, ◌&&◌, ◌||◌, List, [], ◌∷◌, length, Option, Some, None, slice_get, map, unwrap_or}
use Rattle.std.specs.List.{list_any}
use Rattle.ot_model.specs.Cells.{same_cell, conflicts, number_of}
use Rattle.ot_model.specs.declared.expr.Cell.{Cell}
use Rattle.ot_model.specs.declared.fold.Fold.{Fold as Operation}
use Rattle.ot_model.specs.declared.stmt.Use.{Use}
use Rattle.ot_check.specs.Offences.{Declared, Openings}
use Rattle.ot_check.specs.Discipline.{Children}
use Rattle.ot_check.specs.walk.Rows.{found_at, widths}
use Rattle.ot_sets.specs.Sets.{bit_in, has, words_of}
use Rattle.ot_sets.specs.declared.numbers.Numbers.{Numbers}
use Rattle.ot_check.specs.declared.cell_set.CellSet.{CellSet}
use Rattle.ot_check.specs.declared.opened.Opened.{Opened}
use Rattle.ot_check.specs.declared.users.User.{User}
use Rattle.ot_check.specs.declared.tasks.Tasks.{Tasks}
use Rattle.ot_check.specs.declared.standing.Region.{Region}
use Rattle.ot_check.specs.declared.standing.Standing.{Standing}

-- ---- cells

-- the words of each array
abbrev pub rows_of : CellSet → List (List ℕ)
rows_of set = map words_of set.rows.items

-- whether an index is in the row of its array
abbrev pub row_has : Option (List ℕ) → ℕ → Bool
row_has None i = false
row_has (Some words) i = bit_in words i

-- whether a cell is in the set
abbrev pub holds : CellSet → Cell → Bool
holds set c = row_has (slice_get (rows_of set) c.array) c.index

-- the words of each array of each set
abbrev pub sets_of : Opened → List (List (List ℕ))
sets_of opened = map rows_of opened.sets.items

-- whether a cell is in the set of its operation
abbrev pub set_has : Option (List (List ℕ)) → Cell → Bool
set_has None c = false
set_has (Some rows) c = row_has (slice_get rows c.array) c.index

abbrev pub is_open : Opened → Openings
is_open opened o c = set_has (slice_get (sets_of opened) (number_of o)) c

-- ---- tasks

-- the tasks that declare a cell
abbrev pub users_at : List (List (List User)) → Cell → List User
users_at users c = unwrap_or (found_at users c) []

-- whether one of these tasks declares the cell of a use in conflict with it
abbrev pub is_met_by : Numbers → List (List (List User)) → Use → Bool
is_met_by numbers users u = list_any (λ v. has numbers v.task && conflicts v.mode u.mode) (users_at users u.cell)

-- whether a task that uses a cell so in its declaration passes a test of the users of that cell
abbrev pub user_has : (User → Bool) → Cell → ℕ → Use → Bool
user_has test c k u = same_cell u.cell c && test (record { task = k; mode = u.mode })

-- whether some task passes a test, by its number and what it declares; these are those from a number on
abbrev pub some_task : (ℕ → List Use → Bool) → ℕ → List (List Use) → Bool
some_task test k [] = false
some_task test k (d ∷ decls) = test k d || some_task test (suc k) decls

-- each cell's users are the tasks that declare it, which declare these, by their numbers
abbrev pub Tells : List (List (List User)) → List (List Use) → Type 0
Tells users decls = (test : User → Bool) (c : Cell) → list_any test (users_at users c) ≡ some_task (λ k d. list_any (user_has test c k) d) 0 decls

-- these are the declarations of the tasks that were passed
pub record AreOf (decls : List (List Use)) (tasks : Tasks) : Type 0 where
  pub told : Tells tasks.users decls
  pub counted : length decls ≡ tasks.passed

-- the children of a set of tasks that declare these
abbrev pub among : Numbers → List (List Use) → Children
among numbers decls test = some_task (λ k d. has numbers k && test d) 0 decls

-- ---- what stands at a place

-- the region of a body that declares this, before its first statement
pub record IsBegun (own : Declared) (region : Region) : Type 0 where
  pub declares : region.own ≡ own
  pub closed : (o : Operation) (c : Cell) → is_open region.opened o c ≡ false
  pub none : (k : ℕ) → has region.unawaited k ≡ false

-- the region is that of a body that declares this, where these groups are open and these children may be unawaited; the
-- tasks that were passed declare these
pub record Stands (own : Declared) (opened : Openings) (children : Children) (decls : List (List Use)) (region : Region) (tasks : Tasks) : Type 0 where
  pub declares : region.own ≡ own
  pub grouped : (o : Operation) (c : Cell) → is_open region.opened o c ≡ opened o c
  pub those : (test : List Use → Bool) → children test ≡ among region.unawaited decls test
  pub passed : (k : ℕ) → length decls ≤ k → has region.unawaited k ≡ false
  pub known : AreOf decls tasks

abbrev pub Represents : Declared → Openings → Children → List (List Use) → Standing → Type 0
Represents own opened children decls standing = Stands own opened children decls standing.region standing.tasks

-- P holds of whatever the standing represents: a declaration, open groups, and children that may be unawaited
abbrev pub Whatever : Standing → (Declared → Openings → Children → Type 0) → Type 0
Whatever standing P =
    (own : Declared) (opened : Openings) (children : Children) (decls : List (List Use)) → Represents own opened children decls standing → P own opened children

-- what stands behind statements before which tasks with these declarations were passed: these children may be unawaited,
-- and those of these tasks that stay
pub record IsBehind (own : Declared) (opened : Openings) (children : Children) (stay : ℕ → List Use → Bool) (decls : List (List Use)) (new : Standing) : Type 0 where
  pub later : List (List Use)
  pub stands : Represents own opened children (decls ++ later) new
  pub stays : (k : ℕ) (d : List Use) → slice_get decls k ≡ Some d → has new.region.unawaited k ≡ stay k d

-- from the one standing to the other these children come to be, and of those from before the ones to be kept stay
abbrev pub Leads : (old new : Standing) → (Children → Children) → (List Use → Bool) → Type 0
Leads old new change keep =
    (own : Declared) (opened : Openings) (children : Children) (decls : List (List Use)) → Represents own opened children decls old
    → IsBehind own opened (change children) (λ k d. has old.region.unawaited k && keep d) decls new

-- the region with these children in place of its own
abbrev pub with_children : Region → Numbers → Region
with_children region children = record region { unawaited = children }

abbrev pub with_others : Standing → Numbers → Standing
with_others standing children = record standing { region = with_children standing.region children }

-- the same children and one more
abbrev pub one_more : Children → List Use → Children
one_more children child test = children test || test child

-- the children of both
abbrev pub of_both : Children → Children → Children
of_both children others test = children test || others test

-- how many cells each array has
abbrev pub lens_of : Standing → List ℕ
lens_of standing = widths standing.tasks.users
