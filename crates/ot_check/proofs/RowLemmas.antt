-- Rows of users and of words.
use Rattle.std.proofs.Common.{◌≡◌, ◌≢◌, ◌==◌, ℕ, zero, suc, ◌-◌, ◌<◌, ◌++◌, ◌&&◌, ◌||◌, Bool, true, false, List, [], ◌∷◌, length, map, set, get_or, refl, sym, ap, subst, ◌∙◌, inl, inr, arith}
use Rattle.std.specs.Prelude.{Option, Some, None, IsSome, slice_get, option_map, option_and_then, replicate, unwrap_or}
use Rattle.std.proofs.lemmas.Bool.{cases_eq}
use Rattle.std.proofs.lemmas.Option.{slice_get-map, slice_get_within}
use Rattle.ot_model.specs.Cells.{same_cell, number_of, same_fold}
use Rattle.ot_model.specs.declared.expr.Cell.{Cell}
use Rattle.ot_model.specs.declared.fold.Fold.{Fold as Operation}
use Rattle.ot_check.specs.walk.States.{holds, row_has, rows_of, set_has, users_at}
use Rattle.ot_check.specs.walk.Rows.{users_of, users_of_row, users_in, HaveRows, found_at, rows_filled, widths}
use Rattle.ot_sets.specs.Sets.{bit_in, has, words_of}
use Rattle.ot_check.specs.declared.cell_set.CellSet.{CellSet}
use Rattle.ot_sets.specs.declared.numbers.Numbers.{Numbers}
use Rattle.ot_check.specs.declared.users.Row.{Row}
use Rattle.ot_check.proofs.SameLemmas.{eq_itself, eq_apart, cells_equal}
use Rattle.ot_check.proofs.GridLemmas.{found_at-filled, slice_get-set_same, slice_get-set_other}

-- ---- grids

in_row : {A B : Type 0} (f : A → B) (i : ℕ) (o : Option (List A))
    → option_and_then (λ row. slice_get row i) (option_map (map f) o) ≡ option_map f (option_and_then (λ row. slice_get row i) o)
in_row f i None = refl
in_row f i (Some row) = slice_get-map f row i

pub found_at-map : {A B : Type 0} (f : A → B) (grid : List (List A)) (c : Cell) → found_at (map (map f) grid) c ≡ option_map f (found_at grid c)
found_at-map f grid c =
    ap (option_and_then (λ row. slice_get row c.index)) (slice_get-map (map f) grid c.array) ∙ in_row f c.index (slice_get grid c.array)

length-map' : {A B : Type 0} (f : A → B) (xs : List A) → length (map f xs) ≡ length xs
length-map' f [] = refl
length-map' f (x ∷ xs) = ap suc (length-map' f xs)

pub widths-map : {A B : Type 0} (f : A → B) (grid : List (List A)) → widths (map (map f) grid) ≡ widths grid
widths-map f [] = refl
widths-map f (row ∷ grid) = ap (λ n. n ∷ widths (map (map f) grid)) (length-map' f row) ∙ ap (λ ns. length row ∷ ns) (widths-map f grid)

pub widths-rows : {A B : Type 0} (f g : A → B) (grid : List (List A)) → widths (map (map f) grid) ≡ widths (map (map g) grid)
widths-rows f g grid = widths-map f grid ∙ sym (widths-map g grid)

map-filled-row : {A B : Type 0} (f : A → B) (n : ℕ) (x : A) → map f (replicate n x) ≡ replicate n (f x)
map-filled-row f zero x = refl
map-filled-row f (suc n) x = ap (λ xs. f x ∷ xs) (map-filled-row f n x)

pub map-filled : {A B : Type 0} (f : A → B) (x : A) (lens : List ℕ) → map (map f) (rows_filled x lens) ≡ rows_filled (f x) lens
map-filled f x [] = refl
map-filled f x (n ∷ lens) = ap (λ row. row ∷ map (map f) (rows_filled x lens)) (map-filled-row f n x) ∙ ap (λ rows. replicate n (f x) ∷ rows) (map-filled f x lens)

-- ---- rows of users

pub have-none : (lens : List ℕ) → HaveRows [] (rows_filled 0 lens)
have-none lens c place found = absurd (omega (arith, found_at-filled 0 (suc place) lens c.array c.index found))

pub slice_get-last : {A : Type 0} (xs : List A) (x : A) → slice_get (xs ++ x ∷ []) (length xs) ≡ Some x
slice_get-last [] x = refl
slice_get-last (y ∷ xs) x = slice_get-last xs x

pub slice_get-front : {A : Type 0} (xs : List A) (x : A) (i : ℕ) → i < length xs → slice_get (xs ++ x ∷ []) i ≡ slice_get xs i
slice_get-front [] x i l = absurd (omega (arith, l))
slice_get-front (y ∷ xs) x zero l = refl
slice_get-front (y ∷ xs) x (suc i) l = slice_get-front xs x i (omega (arith, l))

some-injective : {A : Type 0} (x y : A) → Some x ≡ Some y → x ≡ y
some-injective x y h = cc

-- what the row of a cell tells
pub users-read : (rows : List Row) (places : List (List ℕ)) (cell : Cell) (place : ℕ) → found_at places cell ≡ Some place
    → users_at (map (map (users_in rows)) places) cell ≡ users_in rows place
users-read rows places cell place found =
    ap (λ o. unwrap_or o []) (found_at-map (users_in rows) places cell ∙ ap (option_map (users_in rows)) found)

-- a row that is read where it is known
pub row-read : (rows : List Row) (i : ℕ) (row : Row) → i < length rows → row ≡ get_or rows i row → slice_get rows i ≡ Some row
row-read [] i row l is = absurd (omega (arith, l))
row-read (r ∷ rows) zero row l is = ap Some (sym is)
row-read (r ∷ rows) (suc i) row l is = row-read rows i row (omega (arith, l)) is

module _ (rows : List Row) (places : List (List ℕ)) (have : HaveRows rows places) where
  pub place-within : (c : Cell) (place : ℕ) → found_at places c ≡ Some (suc place) → place < length rows
  place-within c place found = let r = have c place found in slice_get_within rows place r.0 r.1

  -- a row of its own for a cell without one
  module _ (new : List (List ℕ)) (cell : Cell) (row : Row) (is_cell : row.cell ≡ cell)
      (here : found_at new cell ≡ Some (suc (length rows))) (others : (other : Cell) → cell ≢ other → found_at new other ≡ found_at places other) where
    pub have-pushed : HaveRows (rows ++ row ∷ []) new
    have-pushed c place found =
        elim (cells_equal cell c) [
          | inl is ↦
              let at : suc (length rows) ≡ suc place = some-injective (suc (length rows)) (suc place) (sym here ∙ ap (found_at new) is ∙ found) in
              let e : length rows ≡ place = omega (arith, at) in
              (row, ap (slice_get (rows ++ row ∷ [])) (sym e) ∙ slice_get-last rows row, is_cell ∙ is)
          | inr apart ↦
              let old = sym (others c apart) ∙ found in
              let r = have c place old in
              (r.0, slice_get-front rows row place (place-within c place old) ∙ r.1, r.2)
        ]

    users-kept : (c : Cell) (o : Option ℕ) → found_at places c ≡ o → option_map (users_in (rows ++ row ∷ [])) o ≡ option_map (users_in rows) o
    users-kept c None is = refl
    users-kept c (Some zero) is = refl
    users-kept c (Some (suc place)) is = ap (λ r. Some (users_of r)) (slice_get-front rows row place (place-within c place is))

    pub pushed-here : users_at (map (map (users_in (rows ++ row ∷ []))) new) cell ≡ users_of_row row
    pushed-here = users-read (rows ++ row ∷ []) new cell (suc (length rows)) here ∙ ap users_of (slice_get-last rows row)

    pub pushed-others : (c : Cell) → cell ≢ c → found_at (map (map (users_in (rows ++ row ∷ []))) new) c ≡ found_at (map (map (users_in rows)) places) c
    pushed-others c apart =
        found_at-map (users_in (rows ++ row ∷ [])) new c ∙ ap (option_map (users_in (rows ++ row ∷ []))) (others c apart)
        ∙ users-kept c (found_at places c) refl ∙ sym (found_at-map (users_in rows) places c)

  -- another row in place of that of a cell
  module _ (cell : Cell) (number : ℕ) (row new : Row) (positive : 0 < number) (here : found_at places cell ≡ Some number)
      (value : row ≡ get_or rows (number - 1) row) (same : new.cell ≡ row.cell) where
    abbrev at : ℕ
    at = number - 1

    numbered : found_at places cell ≡ Some (suc at)
    numbered = let e : suc at ≡ number = omega (arith, positive) in here ∙ ap Some (sym e)

    read : slice_get rows at ≡ Some row
    read = row-read rows at row (place-within cell at numbered) value

    set-there : slice_get (set rows at new) at ≡ Some new
    set-there = slice_get-set_same rows at new (subst IsSome (sym read) refl)

    pub have-set : HaveRows (set rows at new) places
    have-set c place found =
        let r = have c place found in
        elim (cases_eq at place) [
          | inl e ↦
              let one : r.0 ≡ row = some-injective r.0 row (sym r.1 ∙ ap (slice_get rows) (sym e) ∙ read) in
              (new, ap (slice_get (set rows at new)) (sym e) ∙ set-there, same ∙ ap (λ r. r.cell) (sym one) ∙ r.2)
          | inr apart ↦ (r.0, slice_get-set_other rows at place new apart ∙ r.1, r.2)
        ]

    users-other : (c : Cell) (o : Option ℕ) → cell ≢ c → found_at places c ≡ o → option_map (users_in (set rows at new)) o ≡ option_map (users_in rows) o
    users-other c None apart is = refl
    users-other c (Some zero) apart is = refl
    users-other c (Some (suc place)) apart is =
        elim (cases_eq at place) [
          | inl e ↦
              let r = have c place is in
              let q = have cell at numbered in
              let one : r.0 ≡ q.0 = some-injective r.0 q.0 (sym r.1 ∙ ap (slice_get rows) (sym e) ∙ q.1) in
              absurd (apart (sym q.2 ∙ ap (λ r. r.cell) (sym one) ∙ r.2))
          | inr other ↦ ap (λ r. Some (users_of r)) (slice_get-set_other rows at place new other)
        ]

    pub set-here : users_at (map (map (users_in (set rows at new))) places) cell ≡ users_of_row new
    set-here = users-read (set rows at new) places cell (suc at) numbered ∙ ap users_of set-there

    pub set-old : users_at (map (map (users_in rows)) places) cell ≡ users_of_row row
    set-old = users-read rows places cell (suc at) numbered ∙ ap users_of read

    pub set-others : (c : Cell) → cell ≢ c → found_at (map (map (users_in (set rows at new))) places) c ≡ found_at (map (map (users_in rows)) places) c
    set-others c apart =
        found_at-map (users_in (set rows at new)) places c ∙ users-other c (found_at places c) apart refl ∙ sym (found_at-map (users_in rows) places c)

-- ---- rows of words

-- an empty row more
pub opened-pushed : (rows : List Numbers) (row : Numbers) (a i : ℕ) → ((k : ℕ) → has row k ≡ false)
    → row_has (slice_get (map words_of (rows ++ row ∷ [])) a) i ≡ row_has (slice_get (map words_of rows) a) i
opened-pushed [] row zero i none = none i
opened-pushed [] row (suc a) i none = refl
opened-pushed (r ∷ rows) row zero i none = refl
opened-pushed (r ∷ rows) row (suc a) i none = opened-pushed rows row a i none

no_bit : (b : Bool) → b ≡ (b || false)
no_bit true = refl
no_bit false = refl

-- a row with one bit more
pub row_has-insert : (rows : List (List ℕ)) (cell c : Cell) (row new : List ℕ) → slice_get rows cell.array ≡ Some row
    → ((k : ℕ) → bit_in new k ≡ (bit_in row k || (k == cell.index)))
    → row_has (slice_get (set rows cell.array new) c.array) c.index ≡ (row_has (slice_get rows c.array) c.index || same_cell cell c)
row_has-insert rows cell c row new there inserted =
    elim (cases_eq cell.array c.array) [
      | inl e ↦
          ap (λ a. row_has (slice_get (set rows cell.array new) a) c.index) (sym e)
          ∙ ap (λ o. row_has o c.index) (slice_get-set_same rows cell.array new (subst IsSome (sym there) refl))
          ∙ inserted c.index ∙ ap (λ o. row_has o c.index || (c.index == cell.index)) (sym there)
          ∙ ap (λ a. row_has (slice_get rows a) c.index || (c.index == cell.index)) e
          ∙ ap (λ b. row_has (slice_get rows c.array) c.index || b) (eq_swap c.index cell.index ∙ ap (λ b. b && (cell.index == c.index)) (sym (ap (λ a. cell.array == a) (sym e) ∙ eq_itself cell.array)))
      | inr apart ↦
          ap (λ o. row_has o c.index) (slice_get-set_other rows cell.array c.array new apart)
          ∙ no_bit (row_has (slice_get rows c.array) c.index)
          ∙ ap (λ b. row_has (slice_get rows c.array) c.index || (b && (cell.index == c.index))) (sym (eq_apart cell.array c.array apart))
    ]
  where
    eq_swap : (n m : ℕ) → (n == m) ≡ (m == n)
    eq_swap n m = elim (cases_eq n m) [
      | inl e ↦ ap (λ k. n == k) (sym e) ∙ eq_itself n ∙ sym (ap (λ k. k == n) (sym e) ∙ eq_itself n)
      | inr apart ↦ eq_apart n m apart ∙ sym (eq_apart m n (λ e. apart (sym e)))
    ]

-- what a list has, seen by a function
pub map-read : {A B : Type 0} (f : A → B) (xs : List A) (i : ℕ) (x : A) → i < length xs → x ≡ get_or xs i x → slice_get (map f xs) i ≡ Some (f x)
map-read f [] i x l is = absurd (omega (arith, l))
map-read f (y ∷ xs) zero x l is = ap (λ y. Some (f y)) (sym is)
map-read f (y ∷ xs) (suc i) x l is = map-read f xs i x (omega (arith, l)) is

-- ---- sets of cells

-- an empty set more
pub set-pushed : (sets : List CellSet) (set : CellSet) (n : ℕ) (c : Cell) → ((c : Cell) → holds set c ≡ false)
    → set_has (slice_get (map rows_of (sets ++ set ∷ [])) n) c ≡ set_has (slice_get (map rows_of sets) n) c
set-pushed [] set zero c none = none c
set-pushed [] set (suc n) c none = refl
set-pushed (s ∷ sets) set zero c none = refl
set-pushed (s ∷ sets) set (suc n) c none = set-pushed sets set n c none

-- a group's cells in the set of its operation
pub set-entered : (sets : List (List (List ℕ))) (place : ℕ) (op o : Operation) (old new : List (List ℕ)) (c : Cell) (named : Bool) → place ≡ number_of op
    → slice_get sets place ≡ Some old → set_has (Some new) c ≡ (set_has (Some old) c || named)
    → set_has (slice_get (set sets place new) (number_of o)) c ≡ (set_has (slice_get sets (number_of o)) c || (same_fold op o && named))
set-entered sets place op o old new c named is there entered =
    elim (cases_eq place (number_of o)) [
      | inl e ↦
          ap (λ n. set_has (slice_get (set sets place new) n) c) (sym e)
          ∙ ap (λ s. set_has s c) (slice_get-set_same sets place new (subst IsSome (sym there) refl))
          ∙ entered ∙ ap (λ s. set_has s c || named) (sym there) ∙ ap (λ n. set_has (slice_get sets n) c || named) e
          ∙ ap (λ b. set_has (slice_get sets (number_of o)) c || (b && named))
          (sym (ap (λ n. n == number_of o) (sym is) ∙ ap (λ n. place == n) (sym e) ∙ eq_itself place))
      | inr apart ↦
          ap (λ s. set_has s c) (slice_get-set_other sets place (number_of o) new apart)
          ∙ no_bit (set_has (slice_get sets (number_of o)) c)
          ∙ ap (λ b. set_has (slice_get sets (number_of o)) c || (b && named)) (sym (ap (λ n. n == number_of o) (sym is) ∙ eq_apart place (number_of o) apart))
    ]
