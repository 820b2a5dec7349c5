-- Grids: what a write does, and what a grid of one value has.
use Rattle.std.proofs.Common.{◌≡◌, ◌≢◌, ℕ, zero, suc, List, [], ◌∷◌, length, get_or, set, refl, sym, ap, subst, ◌∙◌, inl, inr}
use Rattle.std.proofs.lemmas.List.{length-set, length-replicate}
use Rattle.std.specs.Prelude.{Option, Some, None, IsSome, option_and_then, slice_get, replicate}
use Rattle.ot_model.specs.declared.expr.Cell.{Cell}
use Rattle.ot_model.proofs.CellsLemmas.{cells_apart}
use Rattle.ot_check.specs.walk.Rows.{found_at, widths, rows_filled}

pub slice_get-set_same : {A : Type 0} (xs : List A) (i : ℕ) (y : A) → IsSome (slice_get xs i) → slice_get (set xs i y) i ≡ Some y
slice_get-set_same [] i y there = cc
slice_get-set_same (x ∷ xs) zero y there = refl
slice_get-set_same (x ∷ xs) (suc i) y there = slice_get-set_same xs i y there

pub slice_get-set_other : {A : Type 0} (xs : List A) (i j : ℕ) (y : A) → i ≢ j → slice_get (set xs i y) j ≡ slice_get xs j
slice_get-set_other [] i j y apart = refl
slice_get-set_other (x ∷ xs) zero zero y apart = absurd (apart refl)
slice_get-set_other (x ∷ xs) zero (suc j) y apart = refl
slice_get-set_other (x ∷ xs) (suc i) zero y apart = refl
slice_get-set_other (x ∷ xs) (suc i) (suc j) y apart = slice_get-set_other xs i j y (λ e. apart (ap suc e))

row_there : {A : Type 0} (o : Option (List A)) (i : ℕ) → IsSome (option_and_then (λ row. slice_get row i) o) → IsSome o
row_there None i there = there
row_there (Some row) i there = refl

-- the row that is read
row_read : {A : Type 0} (rows : List (List A)) (a : ℕ) (row : List A) → IsSome (slice_get rows a) → row ≡ get_or rows a row → slice_get rows a ≡ Some row
row_read [] a row there is = cc
row_read (r ∷ rows) zero row there is = ap Some (sym is)
row_read (r ∷ rows) (suc a) row there is = row_read rows a row there is

item_there : {A : Type 0} (o : Option (List A)) (row : List A) (i : ℕ) → o ≡ Some row → IsSome (option_and_then (λ row. slice_get row i) o) → IsSome (slice_get row i)
item_there o row i is there = subst (λ o. IsSome (option_and_then (λ row. slice_get row i) o)) is there

-- the cell that was written
pub found_at-written : {A : Type 0} (rows : List (List A)) (c : Cell) (row : List A) (y : A) → row ≡ get_or rows c.array row → IsSome (found_at rows c)
    → found_at (set rows c.array (set row c.index y)) c ≡ Some y
found_at-written rows c row y is there =
    let at : slice_get rows c.array ≡ Some row = row_read rows c.array row (row_there (slice_get rows c.array) c.index there) is in
    ap (option_and_then (λ row. slice_get row c.index)) (slice_get-set_same rows c.array (set row c.index y) (row_there (slice_get rows c.array) c.index there))
    ∙ slice_get-set_same row c.index y (item_there (slice_get rows c.array) row c.index at there)

-- any other cell
pub found_at-others : {A : Type 0} (rows : List (List A)) (c d : Cell) (row : List A) (y : A) → row ≡ get_or rows c.array row → IsSome (found_at rows c) → c ≢ d
    → found_at (set rows c.array (set row c.index y)) d ≡ found_at rows d
found_at-others rows c d row y is there apart =
    elim (cells_apart c d apart) [
      | inl arrays ↦ ap (option_and_then (λ row. slice_get row d.index)) (slice_get-set_other rows c.array d.array (set row c.index y) arrays)
      | inr both ↦
          let at : slice_get rows c.array ≡ Some row = row_read rows c.array row (row_there (slice_get rows c.array) c.index there) is in
          ap (λ a. option_and_then (λ row. slice_get row d.index) (slice_get (set rows c.array (set row c.index y)) a)) (sym both.0)
          ∙ ap (option_and_then (λ row. slice_get row d.index)) (slice_get-set_same rows c.array (set row c.index y) (row_there (slice_get rows c.array) c.index there))
          ∙ slice_get-set_other row c.index d.index y both.1
          ∙ ap (option_and_then (λ row. slice_get row d.index)) (sym at)
          ∙ ap (λ a. option_and_then (λ row. slice_get row d.index) (slice_get rows a)) both.0
    ]

pub widths-set : {A : Type 0} (rows : List (List A)) (a i : ℕ) (row : List A) (y : A) → row ≡ get_or rows a row → IsSome (slice_get rows a)
    → widths (set rows a (set row i y)) ≡ widths rows
widths-set [] a i row y is there = refl
widths-set (r ∷ rows) zero i row y is there = ap (λ n. n ∷ widths rows) (length-set row i y ∙ ap length is)
widths-set (r ∷ rows) (suc a) i row y is there = ap (λ ns. length r ∷ ns) (widths-set rows a i row y is there)

-- ---- one value

found_at-replicate : {A : Type 0} (n i : ℕ) (x y : A) → slice_get (replicate n x) i ≡ Some y → y ≡ x
found_at-replicate zero i x y h = cc
found_at-replicate (suc n) zero x y h = cc
found_at-replicate (suc n) (suc i) x y h = found_at-replicate n i x y h

pub found_at-filled : {A : Type 0} (x y : A) (lens : List ℕ) (a i : ℕ)
    → option_and_then (λ row. slice_get row i) (slice_get (rows_filled x lens) a) ≡ Some y → y ≡ x
found_at-filled x y [] a i h = cc
found_at-filled x y (n ∷ lens) zero i h = found_at-replicate n i x y h
found_at-filled x y (n ∷ lens) (suc a) i h = found_at-filled x y lens a i h

pub widths-filled : {A : Type 0} (x : A) (lens : List ℕ) → widths (rows_filled x lens) ≡ lens
widths-filled x [] = refl
widths-filled x (n ∷ lens) = ap (λ m. m ∷ widths (rows_filled x lens)) (length-replicate n x) ∙ ap (λ ns. n ∷ ns) (widths-filled x lens)

pub row_of_cell : {A : Type 0} (rows : List (List A)) (c : Cell) → IsSome (found_at rows c) → IsSome (slice_get rows c.array)
row_of_cell rows c there = row_there (slice_get rows c.array) c.index there
