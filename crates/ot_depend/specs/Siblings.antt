-- The children of one body in order of their creation, and which of them may run.
use Rattle.std.specs.Prelude.{◌≡◌, [], ◌<◌, ◌==◌, ◌&&◌, ◌||◌, ℕ, Bool, true, false, not, IsTrue, List, Some, take, option_map, unwrap_or, slice_get, ◌+◌, cond, ◌∷◌, count_by}
use Rattle.std.specs.List.{list_any, list_all}
use Rattle.ot_model.specs.Cells.{updated, DependsOn, depends_on, same_cell}
use Rattle.ot_model.specs.declared.stmt.Use.{Use}
use Rattle.ot_model.specs.declared.expr.Cell.{Cell}
use Rattle.ot_model.specs.declared.stmt.Mode.{Mode}
use Rattle.ot_model.specs.declared.stmt.Mode.TheVariants.{Reads, Writes, Folds}

-- a child: what it declares, the groups that were open where it was created, and whether it has finished
pub record Sibling : Type 0 where
  pub uses : List Use
  pub groups : List ℕ
  pub finished : Bool

-- a child as it is created
abbrev pub sibling_created : List Use → List ℕ → Sibling
sibling_created uses groups = record { uses = uses; groups = groups; finished = false }

-- the same children, this one finished
abbrev pub with_finished : List Sibling → ℕ → List Sibling
with_finished siblings child = updated siblings child (λ s. record s { finished = true })

-- the child is known, and each earlier sibling on which it depends has finished (OpenMP API 5.2, section 15.9.5)
pub record IsReady (siblings : List Sibling) (child : ℕ) : Type 0 where
  pub itself : Sibling
  pub known : slice_get siblings child ≡ Some itself
  pub awaited : (place : ℕ) (earlier : Sibling) → place < child → slice_get siblings place ≡ Some earlier →
      DependsOn earlier.uses itself.uses → IsTrue earlier.finished

-- whether the child is ready
abbrev pub is_ready : List Sibling → ℕ → Bool
is_ready siblings child =
    let waits_for_none = λ (itself : Sibling). list_all (λ earlier. earlier.finished || not (depends_on earlier.uses itself.uses)) (take child siblings) in
    unwrap_or (option_map waits_for_none (slice_get siblings child)) false

-- the child is known, and has not finished
pub record IsUnfinished (siblings : List Sibling) (child : ℕ) : Type 0 where
  pub itself : Sibling
  pub known : slice_get siblings child ≡ Some itself
  pub unfinished : itself.finished ≡ false

-- each child that has finished is ready
abbrev pub FinishedAreReady : List Sibling → Type 0
FinishedAreReady siblings =
    (child : ℕ) (itself : Sibling) → slice_get siblings child ≡ Some itself → IsTrue itself.finished → IsReady siblings child

-- whether it has not finished
abbrev pub is_unfinished : Sibling → Bool
is_unfinished s = not s.finished

-- whether this group was open where it was created (OpenMP API 5.2, section 15.4)
abbrev pub is_in : ℕ → Sibling → Bool
is_in group s = list_any (λ g. g == group) s.groups

-- whether it has not finished, and was created in this group
abbrev pub is_unfinished_in : ℕ → Sibling → Bool
is_unfinished_in group s = is_unfinished s && is_in group s

-- whether a wait for these cells awaits the child: it has not finished, and a task created now with these uses would
-- depend on it (`taskwait` with `depend`, OpenMP API 5.2, sections 15.5 and 15.9.5)
abbrev pub is_awaited : List Use → Sibling → Bool
is_awaited uses s = is_unfinished s && depends_on s.uses uses

-- whether it awaits one of the children
abbrev pub waits_for : List Sibling → List Use → Bool
waits_for siblings uses = list_any (is_awaited uses) siblings

-- it awaits none of them at the first so many of its uses
abbrev pub AreFree : List Sibling → List Use → ℕ → Type 0
AreFree siblings uses count = waits_for siblings (take count uses) ≡ false

-- For whom a child waits by itself: the earlier siblings that it depends on at a cell which no sibling between the two writes.

-- whether it is `out` or `inout`
abbrev pub is_write : Mode → Bool
is_write Reads = false
is_write Writes = true
is_write (Folds op) = false

-- whether the cell is declared
abbrev pub uses_cell : Cell → List Use → Bool
uses_cell cell uses = list_any (λ u. same_cell u.cell cell) uses

-- whether the cell is declared as Writes
abbrev pub writes_cell : Cell → List Use → Bool
writes_cell cell uses = list_any (λ u. same_cell u.cell cell && is_write u.mode) uses

-- whether a later child with these uses depends on an earlier one at a cell that none of those between writes
abbrev pub is_direct : (earlier : List Use) (between : List Sibling) (later : List Use) → Bool
is_direct earlier between later =
    list_any (λ v. uses_cell v.cell earlier && (writes_cell v.cell earlier || is_write v.mode) && not (list_any (λ s. writes_cell v.cell s.uses) between)) later

-- on how many of these siblings that have not finished a child that comes after them depends so
abbrev pub count_direct : List Sibling → List Use → ℕ
count_direct [] later = 0
count_direct (s ∷ between) later = cond (not s.finished && is_direct s.uses between later) 1 0 + count_direct between later

-- for how many unfinished siblings the child waits by itself
abbrev pub waiting_for : List Sibling → ℕ → ℕ
waiting_for siblings child = unwrap_or (option_map (λ s. count_direct (take child siblings) s.uses) (slice_get siblings child)) 0

-- whether the number is in the list
abbrev pub has : ℕ → List ℕ → Bool
has n xs = list_any (λ x. x == n) xs

-- how often
abbrev pub times : ℕ → List ℕ → ℕ
times n xs = count_by (λ x. x == n) xs

-- Whom the end of a child may let run, and who waits for less by it.

-- each child that isn't among these is as ready as before
abbrev pub LetsTheSame : List ℕ → List Sibling → List Sibling → Type 0
LetsTheSame among old new = (child : ℕ) → has child among ≡ false → is_ready new child ≡ is_ready old child

-- each child waits by itself for one less for each time that it is among these: so those among them are those that wait
-- for less, each once
abbrev pub WaitForLess : List ℕ → List Sibling → List Sibling → Type 0
WaitForLess among old new = (child : ℕ) → waiting_for old child ≡ waiting_for new child + times child among
