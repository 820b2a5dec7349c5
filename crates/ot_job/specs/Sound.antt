-- What holds of the regions of a job.
use Rattle.std.specs.Prelude.{◌≡◌, ◌<◌, ◌⊎◌, ℕ, ◌&&◌, ◌||◌, true, false, List, [], ◌∷◌, length, Some, None, slice_get}
use Rattle.ot_model.specs.Tree.{Body, End}
use Rattle.ot_model.specs.declared.expr.Cell.{Cell}
use Rattle.ot_model.specs.declared.fold.Fold.{Fold as Operation}
use Rattle.ot_model.specs.declared.stmt.Mode.{Mode}
use Rattle.ot_model.specs.declared.stmt.Mode.TheVariants.{Writes, Folds}
use Rattle.ot_model.specs.declared.stmt.Use.{Use}
use Rattle.ot_model.specs.Cells.{same_fold}
use Rattle.ot_depend.specs.Siblings.{Sibling, IsReady, is_in}
use Rattle.ot_check.specs.Offences.{use_as, Declared, Openings, allows, folds_to, has_cell, EachTouch, EachTask}
use Rattle.ot_job.specs.Numbered.{at, parent_of, ended_at}
use Rattle.ot_job_task.specs.Regions.{Open, todo, Region}
use Rattle.ot_job.specs.Awaiting.{openings_of, IsFineAt, AwaitsAll, unfinished_unawaited}

abbrev pub may_at : List Region → ℕ → Use → Type 0
may_at rs i u = allows (at rs i).own u ≡ true

-- the task is the root, or ready by its parent's table
abbrev pub IsRootOrReady : List Region → ℕ → Type 0
IsRootOrReady rs i = 0 < i → (i < length rs) × IsReady (at rs (parent_of rs i)).children (at rs i).child

-- a task's entry in its parent's table
pub record IsKin (rs : List Region) (i : ℕ) : Type 0 where
  pub entry : Sibling
  pub there : slice_get (at rs (parent_of rs i)).children (at rs i).child ≡ Some entry
  pub uses : (at rs i).own ≡ Some entry.uses
  pub finished : entry.finished ≡ (at rs i).ended

-- the body may use the cell to fold by this operation, and in no other way
abbrev pub OnlyFolds : Operation → Declared → Cell → Type 0
OnlyFolds o own c = (m : Mode) → allows own (use_as m c) ≡ true → m ≡ Folds o

-- what the second declares to fold, the first may fold by the same operation, and use in no other way
abbrev pub DontMix : List Use → List Use → Type 0
DontMix us vs = (o : Operation) (c : Cell) → folds_to (Some vs) o c ≡ true → OnlyFolds o (Some us) c

-- whether the child was created in an open group by this operation that names the cell
abbrev pub grouped_in : List Open → Sibling → Openings
grouped_in [] s o c = false
grouped_in (g ∷ gs) s o c = ((same_fold g.op o && has_cell g.cells c) && is_in g.group s) || grouped_in gs s o c

-- no cell is named by two of the groups
abbrev pub NamedOnce : List Open → Type 0
NamedOnce [] = Unit {0}
NamedOnce (g ∷ gs) = ((o : Operation) (c : Cell) → has_cell g.cells c ≡ true → openings_of gs o c ≡ false) × NamedOnce gs

-- the declaration lets the body make each of its touches
abbrev pub LetsAll : List Use → Body → Type 0
LetsAll uses body = EachTouch (λ u. allows (Some uses) u ≡ true) body

-- what holds of one region
pub record IsSoundRegion (r : Region) : Type 0 where
  pub fine : IsFineAt r.own (unfinished_unawaited r.waiting r.children) r.rest r.groups
  pub inside : EachTouch (λ u. allows r.own u ≡ true) (todo r.rest r.groups)
  pub tasks : EachTask LetsAll (todo r.rest r.groups)
  pub awaits : (uses : List Use) → r.own ≡ Some uses → AwaitsAll (unfinished_unawaited r.waiting r.children) r.rest r.groups
  pub within : (k : ℕ) (s : Sibling) → slice_get r.children k ≡ Some s → (u : Use) → allows (Some s.uses) u ≡ true → allows r.own u ≡ true
  pub apart : (k l : ℕ) (s t : Sibling) → slice_get r.children k ≡ Some s → slice_get r.children l ≡ Some t → s.finished ≡ false → t.finished ≡ false → DontMix s.uses t.uses
  pub over : r.ended ≡ true → todo r.rest r.groups ≡ End
  pub shut : r.ended ≡ true → r.groups ≡ []
  pub once : NamedOnce r.groups
  pub writes : (o : Operation) (c : Cell) → openings_of r.groups o c ≡ true → allows r.own (use_as Writes c) ≡ true
  pub grouped : (k : ℕ) (s : Sibling) → slice_get r.children k ≡ Some s → s.finished ≡ false → (o : Operation) (c : Cell) → folds_to (Some s.uses) o c ≡ true → (folds_to r.own o c ≡ true) ⊎ (grouped_in r.groups s o c ≡ true)
  pub reduced : (k : ℕ) (s : Sibling) → slice_get r.children k ≡ Some s → s.finished ≡ false → (o : Operation) (c : Cell) → openings_of r.groups o c ≡ true → OnlyFolds o (Some s.uses) c
  pub exclusive : (o : Operation) (c : Cell) → folds_to r.own o c ≡ true → OnlyFolds o r.own c

-- the task of an entry in a table
pub record HasTask (rs : List Region) (parent child : ℕ) : Type 0 where
  pub task : ℕ
  pub below : 0 < task
  pub known : task < length rs
  pub of : parent_of rs task ≡ parent
  pub is : (at rs task).child ≡ child

pub record IsSoundRegions (rs : List Region) : Type 0 where
  pub root : (at rs 0).own ≡ None
  pub top : parent_of rs 0 ≡ 0
  pub down : (i : ℕ) → 0 < i → parent_of rs i < i
  pub kin : (i : ℕ) → 0 < i → i < length rs → IsKin rs i
  pub entries : (p k : ℕ) (s : Sibling) → slice_get (at rs p).children k ≡ Some s → HasTask rs p k
  pub older : (a b : ℕ) → 0 < b → b < a → a < length rs → parent_of rs b ≡ parent_of rs a → (at rs b).child < (at rs a).child
  pub begun : (i : ℕ) → 0 < i → i < length rs → IsRootOrReady rs (parent_of rs i)
  pub entered : (i : ℕ) (o : Open) (os : List Open) → (at rs i).groups ≡ o ∷ os → IsRootOrReady rs i
  pub placed : (i : ℕ) → IsSoundRegion (at rs i)
  pub done : (i : ℕ) → 0 < i → ended_at rs i ≡ true → (k : ℕ) (s : Sibling) → slice_get (at rs i).children k ≡ Some s → s.finished ≡ true
