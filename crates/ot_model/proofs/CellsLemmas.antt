-- Cells: what a write does, and what it keeps.
use Rattle.std.proofs.Common.{◌≡◌, ◌≢◌, ℕ, zero, suc, List, [], ◌∷◌, length, map, get_or, set, refl, sym, ap, ◌∙◌, ◌⊎◌, inl, inr}
use Rattle.std.proofs.lemmas.Bool.{cases_eq}
use Rattle.std.proofs.lemmas.Option.{none-some, same_Some}
use Rattle.std.specs.Prelude.{Option, Some, None, IsSome, option_and_then, option_map, slice_get}
use Rattle.ot_model.specs.Cells.{cell_of, with_cell, updated, lengths}
use Rattle.ot_model.specs.declared.expr.Cell.{Cell}

-- writing f of what stood there
pub set-updated : {A : Type 0} (xs : List A) (i : ℕ) (y d : A) (f : A → A) → y ≡ f (get_or xs i d) → set xs i y ≡ updated xs i f
set-updated [] i y d f p = refl
set-updated (x ∷ xs) zero y d f p = ap (λ z. z ∷ xs) p
set-updated (x ∷ xs) (suc i) y d f p = ap (λ zs. x ∷ zs) (set-updated xs i y d f p)

-- what the code writes to a row of rows
pub set-with_cell : (rows : List (List ℕ)) (cell : Cell) (row : List ℕ) (n : ℕ) →
    row ≡ get_or rows cell.array row → set rows cell.array (set row cell.index n) ≡ with_cell rows cell (λ _. n)
set-with_cell rows cell row n is =
    let inner : (xs : List ℕ) → set xs cell.index n ≡ updated xs cell.index (λ _. n) = λ xs. set-updated xs cell.index n 0 (λ _. n) refl in
    set-updated rows cell.array (set row cell.index n) row (λ xs. updated xs cell.index (λ _. n)) (inner row ∙ ap (λ xs. updated xs cell.index (λ _. n)) is)

pub length-updated : {A : Type 0} (xs : List A) (i : ℕ) (f : A → A) → length (updated xs i f) ≡ length xs
length-updated [] i f = refl
length-updated (x ∷ xs) zero f = refl
length-updated (x ∷ xs) (suc i) f = ap suc (length-updated xs i f)

pub map-updated : {A B : Type 0} (g : A → B) (xs : List A) (i : ℕ) (f : A → A) → ((x : A) → g (f x) ≡ g x) → map g (updated xs i f) ≡ map g xs
map-updated g [] i f same = refl
map-updated g (x ∷ xs) zero f same = ap (λ z. z ∷ map g xs) (same x)
map-updated g (x ∷ xs) (suc i) f same = ap (λ zs. g x ∷ zs) (map-updated g xs i f same)

-- a change keeps the lengths
pub lengths-with_cell : (cells : List (List ℕ)) (c : Cell) (f : ℕ → ℕ) → lengths (with_cell cells c f) ≡ lengths cells
lengths-with_cell cells c f = map-updated length cells c.array (λ row. updated row c.index f) (λ row. length-updated row c.index f)

updated-read : {A : Type 0} (xs : List A) (i : ℕ) (m : A) (f g : A → A) → slice_get xs i ≡ Some m → f m ≡ g m → updated xs i f ≡ updated xs i g
updated-read [] i m f g there same = refl
updated-read (x ∷ xs) zero m f g there same =
    let is : x ≡ m = cc in
    ap (λ z. z ∷ xs) (ap f is ∙ same ∙ sym (ap g is))
updated-read (x ∷ xs) (suc i) m f g there same = ap (λ zs. x ∷ zs) (updated-read xs i m f g there same)

with_row-read : (o : Option (List ℕ)) (i m : ℕ) (f g : ℕ → ℕ) → option_and_then (λ row. slice_get row i) o ≡ Some m → f m ≡ g m →
    (row : List ℕ) → o ≡ Some row → updated row i f ≡ updated row i g
with_row-read None i m f g there same row is = cc
with_row-read (Some row) i m f g there same row' is =
    let e : row' ≡ row = cc in
    ap (λ r. updated r i f) e ∙ updated-read row i m f g there same ∙ sym (ap (λ r. updated r i g) e)

updated-rows : {A : Type 0} (xs : List A) (i : ℕ) (f g : A → A) → ((x : A) → slice_get xs i ≡ Some x → f x ≡ g x) → updated xs i f ≡ updated xs i g
updated-rows [] i f g same = refl
updated-rows (x ∷ xs) zero f g same = ap (λ z. z ∷ xs) (same x refl)
updated-rows (x ∷ xs) (suc i) f g same = ap (λ zs. x ∷ zs) (updated-rows xs i f g same)

-- writing what f gives of the number that was read
pub with_cell-read : (cells : List (List ℕ)) (c : Cell) (m n : ℕ) (f : ℕ → ℕ) → cell_of cells c ≡ Some m → n ≡ f m →
    with_cell cells c (λ _. n) ≡ with_cell cells c f
with_cell-read cells c m n f there is =
    updated-rows cells c.array (λ row. updated row c.index (λ _. n)) (λ row. updated row c.index f)
    (with_row-read (slice_get cells c.array) c.index m (λ _. n) f there is)

-- two cells of one array and one index are one cell
pub same_cell : (c d : Cell) → c.array ≡ d.array → c.index ≡ d.index → c ≡ d
same_cell c d array index =
    let at : ℕ → ℕ → Cell = λ a i. record { array = a; index = i } in
    ap (λ a. at a c.index) array ∙ ap (at d.array) index

-- two cells are apart by their arrays, or by their indices in one array
pub cells_apart : (c d : Cell) → c ≢ d → (c.array ≢ d.array) ⊎ ((c.array ≡ d.array) × (c.index ≢ d.index))
cells_apart c d apart =
    elim (cases_eq c.array d.array) [
      | inl array ↦ inr (array, λ index. apart (same_cell c d array index))
      | inr other ↦ inl other
    ]

pub slice_get-updated : {A : Type 0} (xs : List A) (i : ℕ) (f : A → A) → slice_get (updated xs i f) i ≡ option_map f (slice_get xs i)
slice_get-updated [] i f = refl
slice_get-updated (x ∷ xs) zero f = refl
slice_get-updated (x ∷ xs) (suc i) f = slice_get-updated xs i f

pub slice_get-updated-other : {A : Type 0} (xs : List A) (i j : ℕ) (f : A → A) → i ≢ j → slice_get (updated xs i f) j ≡ slice_get xs j
slice_get-updated-other [] i j f apart = refl
slice_get-updated-other (x ∷ xs) zero zero f apart = absurd (apart refl)
slice_get-updated-other (x ∷ xs) zero (suc j) f apart = refl
slice_get-updated-other (x ∷ xs) (suc i) zero f apart = refl
slice_get-updated-other (x ∷ xs) (suc i) (suc j) f apart = slice_get-updated-other xs i j f (λ e. apart (ap suc e))

row-updated : (o : Option (List ℕ)) (i : ℕ) (f : ℕ → ℕ) →
    option_and_then (λ row. slice_get row i) (option_map (λ row. updated row i f) o) ≡ option_map f (option_and_then (λ row. slice_get row i) o)
row-updated None i f = refl
row-updated (Some row) i f = slice_get-updated row i f

row-updated-other : (o : Option (List ℕ)) (i j : ℕ) (f : ℕ → ℕ) → i ≢ j →
    option_and_then (λ row. slice_get row j) (option_map (λ row. updated row i f) o) ≡ option_and_then (λ row. slice_get row j) o
row-updated-other None i j f apart = refl
row-updated-other (Some row) i j f apart = slice_get-updated-other row i j f apart

option_map-const : (o : Option ℕ) (n : ℕ) → IsSome o → option_map (λ _. n) o ≡ Some n
option_map-const None n there = cc
option_map-const (Some m) n there = refl

-- the changed cell has f of what it had
pub cell_of-with_cell : (cells : List (List ℕ)) (c : Cell) (f : ℕ → ℕ) → cell_of (with_cell cells c f) c ≡ option_map f (cell_of cells c)
cell_of-with_cell cells c f =
    ap (option_and_then (λ row. slice_get row c.index)) (slice_get-updated cells c.array (λ row. updated row c.index f))
    ∙ row-updated (slice_get cells c.array) c.index f

-- a cell that is there, once a number was written to it
pub cell_of-with_cell-written : (cells : List (List ℕ)) (c : Cell) (n : ℕ) → IsSome (cell_of cells c) → cell_of (with_cell cells c (λ _. n)) c ≡ Some n
cell_of-with_cell-written cells c n there = cell_of-with_cell cells c (λ _. n) ∙ option_map-const (cell_of cells c) n there

-- another cell has what it had
pub cell_of-with_cell-other : (cells : List (List ℕ)) (c d : Cell) (f : ℕ → ℕ) → c ≢ d → cell_of (with_cell cells c f) d ≡ cell_of cells d
cell_of-with_cell-other cells c d f apart =
    let change : List ℕ → List ℕ = λ row. updated row c.index f in
    let found : Option (List ℕ) → Option ℕ = option_and_then (λ row. slice_get row d.index) in
    elim (cells_apart c d apart) [
      | inl other ↦ ap found (slice_get-updated-other cells c.array d.array change other)
      | inr both ↦
          ap (λ a. found (slice_get (updated cells c.array change) a)) (sym both.0)
          ∙ ap found (slice_get-updated cells c.array change)
          ∙ row-updated-other (slice_get cells c.array) c.index d.index f both.1
          ∙ ap (λ a. found (slice_get cells a)) both.0
    ]

pub updated-updated : {A : Type 0} (xs : List A) (i : ℕ) (f g : A → A) → updated (updated xs i f) i g ≡ updated xs i (λ x. g (f x))
updated-updated [] i f g = refl
updated-updated (x ∷ xs) zero f g = refl
updated-updated (x ∷ xs) (suc i) f g = ap (λ zs. x ∷ zs) (updated-updated xs i f g)

-- lists with the same elements at all places are the same
pub same_list : {A : Type 0} (xs ys : List A) → ((i : ℕ) → slice_get xs i ≡ slice_get ys i) → xs ≡ ys
same_list [] [] same = refl
same_list [] (y ∷ ys) same = absurd (none-some y (same 0))
same_list (x ∷ xs) [] same = absurd (none-some x (sym (same 0)))
same_list (x ∷ xs) (y ∷ ys) same =
    ap (λ z. z ∷ xs) (same_Some x y (same 0)) ∙ ap (λ zs. y ∷ zs) (same_list xs ys (λ i. same (suc i)))

-- cells of the same lengths with the same number in each cell are the same
pub same_cells : (cells others : List (List ℕ)) → lengths cells ≡ lengths others → ((c : Cell) → cell_of cells c ≡ cell_of others c) → cells ≡ others
same_cells [] [] long same = refl
same_cells [] (other ∷ others) long same = cc
same_cells (row ∷ cells) [] long same = cc
same_cells (row ∷ cells) (other ∷ others) long same =
    let at : ℕ → ℕ → Cell = λ a i. record { array = a; index = i } in
    let rest : lengths cells ≡ lengths others = cc in
    ap (λ r. r ∷ cells) (same_list row other (λ i. same (at 0 i)))
    ∙ ap (λ rs. other ∷ rs) (same_cells cells others rest (λ c. same (at (suc c.array) c.index)))
