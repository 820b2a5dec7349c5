-- What the table keeps beside the children, and how it hangs together: only this crate knows it.
use Rattle.std.specs.Prelude.{◌≡◌, [], ◌<◌, ◌≤◌, ◌-◌, ◌==◌, ◌||◌, ◌⊎◌, ℕ, Bool, true, false, cond, List, ◌∷◌, ◌++◌, Option, Some, length, map, get_or, slice_get, option_map, unwrap_or, fold, ◌+◌, vec_len, vec_capacity}
use Rattle.std.specs.List.{sum_by}
use Rattle.std.specs.Option.{option_to_list}
use Rattle.ot_model.specs.Cells.{updated}
use Rattle.ot_model.specs.declared.expr.Cell.{Cell}
use Rattle.ot_model.specs.declared.stmt.Mode.{Mode}
use Rattle.ot_model.specs.declared.stmt.Use.{Use}
use Rattle.ot_depend.specs.Siblings.{Sibling, is_write, uses_cell, writes_cell, has, times}
use Rattle.std.specs.declared.vec.Vec.{Vec}

-- what each child declares
abbrev pub decls : List Sibling → List (List Use)
decls siblings = map (λ s. s.uses) siblings

-- of children with these declarations, the later one depends on the earlier one at a cell that none between them writes
pub record IsDirect (decls : List (List Use)) (earlier later : ℕ) : Type 0 where
  pub cell : Cell
  pub order : earlier < later
  pub used : uses_cell cell (get_or decls earlier []) ≡ true
  pub uses : uses_cell cell (get_or decls later []) ≡ true
  pub written : (writes_cell cell (get_or decls earlier []) || writes_cell cell (get_or decls later [])) ≡ true
  pub between : (k : ℕ) → earlier < k → k < later → writes_cell cell (get_or decls k []) ≡ false

-- whether the list ends with the number
abbrev pub ends_with : ℕ → List ℕ → Bool
ends_with n xs = unwrap_or (option_map (λ x. x == n) (slice_get xs (length xs - 1))) false

-- the list with the number behind it, once
abbrev pub with_last : ℕ → List ℕ → List ℕ
with_last n xs = cond (ends_with n xs) xs (xs ++ n ∷ [])

-- a cell's row: the last child that writes it, and those that use it since
pub record Entry : Type 0 where
  pub writer : Option ℕ
  pub users : List ℕ

-- a row that tells of the children that use a cell (u) and that write it (w)
pub record RowIs (u w : ℕ → Bool) (writer : Option ℕ) (users : List ℕ) : Type 0 where
  pub writes : (k : ℕ) → writer ≡ Some k → w k ≡ true
  pub last : (i : ℕ) → w i ≡ true → (k : ℕ) × (writer ≡ Some k) × (i ≤ k)
  pub used : (i : ℕ) → has i users ≡ true → u i ≡ true
  pub since : (i k : ℕ) → has i users ≡ true → writer ≡ Some k → k ≤ i
  pub all : (i : ℕ) → u i ≡ true → (has i users ≡ true) ⊎ ((k : ℕ) × (writer ≡ Some k) × (i ≤ k))

-- the children in a row for which one that now uses the cell so has to wait
abbrev pub row_waits_for : Entry → Mode → List ℕ
row_waits_for e mode = option_to_list e.writer ++ cond (is_write mode) e.users []

-- the row once this child uses the cell so
abbrev pub row_entered_by : ℕ → Mode → Entry → Entry
row_entered_by child mode e = record { writer = cond (is_write mode) (Some child) e.writer; users = cond (is_write mode) [] (with_last child e.users) }

-- a child with the number of unfinished siblings that it waits for by itself, and the children that wait so for it
pub record Kid : Type 0 where
  pub it : Sibling
  pub waiting : ℕ
  pub waiters : List ℕ

abbrev pub siblings : List Kid → List Sibling
siblings kids = map (λ k. k.it) kids

-- how often this child has to be told still of a child's end
abbrev pub owes : ℕ → Kid → ℕ
owes child k = cond k.it.finished 0 (times child k.waiters)

abbrev pub due : ℕ → List Kid → ℕ
due child kids = sum_by (owes child) kids

-- the lists of an unfinished child have each child that waits for it by itself once, and the numbers count them
pub record IsLinked (kids : List Kid) : Type 0 where
  pub told : (i j : ℕ) (k : Kid) → slice_get kids i ≡ Some k → k.it.finished ≡ false → has j k.waiters ≡ true → IsDirect (decls (siblings kids)) i j
  pub telling : (i j : ℕ) (k : Kid) → slice_get kids i ≡ Some k → k.it.finished ≡ false → IsDirect (decls (siblings kids)) i j → has j k.waiters ≡ true
  pub once : (i j : ℕ) (k : Kid) → slice_get kids i ≡ Some k → times j k.waiters ≤ 1
  pub counted : (j : ℕ) (k : Kid) → slice_get kids j ≡ Some k → k.waiting ≡ due j kids

-- a child that waits for one less
abbrev pub one_less : Kid → Kid
one_less k = record k { waiting = k.waiting - 1 }

-- the children once each of these, as often as it stands there, waits for one less
abbrev pub woken : List Kid → List ℕ → List Kid
woken kids told = fold (λ ks w. updated ks w one_less) kids told

-- a child that has finished
abbrev pub kid_ended : Kid → Kid
kid_ended k = record k { it = record k.it { finished = true } }

-- a child once this one waits for it, where it has not finished
abbrev pub enlist : ℕ → Kid → Kid
enlist child k = record k { waiters = cond k.it.finished k.waiters (with_last child k.waiters) }

-- the children once this one waits for these
abbrev pub kids_enlisted : ℕ → List Kid → List ℕ → List Kid
kids_enlisted child kids earlier = fold (λ ks p. updated ks p (enlist child)) kids earlier

-- those that wait for the child at this place
abbrev pub waiters_of : List Kid → ℕ → List ℕ
waiters_of kids place = unwrap_or (option_map (λ k. k.waiters) (slice_get kids place)) []

-- each of these is known, and waits for as many as it is told of here
abbrev pub WaitForAll : List Kid → List ℕ → Type 0
WaitForAll kids told = (w : ℕ) → has w told ≡ true → (k : Kid) × (slice_get kids w ≡ Some k) × (times w told ≤ k.waiting)

-- Room in a list of numbers.

-- one more number fits
abbrev pub HasRoom : {Z : Type 0} → Vec ℕ Z → Type 0
HasRoom v = vec_len v < vec_capacity v

-- the list ends with the number, or it fits behind
abbrev pub Admits : {Z : Type 0} → ℕ → Vec ℕ Z → Type 0
Admits n v = vec_len v < vec_capacity v + cond (ends_with n v.items) 1 0
