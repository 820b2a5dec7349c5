-- The rows of cells, where what is past the end is a default.
use Rattle.std.proofs.Common.{◌≡◌, ◌≢◌, ℕ, zero, suc, ◌<◌, ◌≤◌, ◌/◌, ◌%◌, List, [], ◌∷◌, ◌++◌, length, set, get_or, refl, sym, ap, arith}
use Rattle.std.specs.Prelude.{Some, slice_get, unwrap_or, option_map}
use Rattle.std.proofs.Math.Nat.{div-add-mod}
use Rattle.std.proofs.lemmas.Option.{slice_get_past}
use Rattle.ot_show_graph.specs.Written.{CellRow, no_child}

-- an element whose place is known
pub place_read : {A : Type 0} (xs : List A) (k : ℕ) (x : A) → k < length xs → x ≡ get_or xs k x → slice_get xs k ≡ Some x
place_read [] k x l h = absurd (omega (arith, l))
place_read (y ∷ xs) zero x l h = ap Some (sym h)
place_read (y ∷ xs) (suc k) x l h = place_read xs k x (omega (arith, l)) h

-- one that is replaced
pub get_here : {A : Type 0} (xs : List A) (i : ℕ) (x : A) → i < length xs → slice_get (set xs i x) i ≡ Some x
get_here [] i x l = absurd (omega (arith, l))
get_here (y ∷ xs) zero x l = refl
get_here (y ∷ xs) (suc i) x l = get_here xs i x (omega (arith, l))

pub get_other : {A : Type 0} (xs : List A) (i j : ℕ) (x : A) → j ≢ i → slice_get (set xs i x) j ≡ slice_get xs j
get_other [] i j x apart = refl
get_other (y ∷ xs) zero zero x apart = absurd (apart refl)
get_other (y ∷ xs) zero (suc j) x apart = refl
get_other (y ∷ xs) (suc i) zero x apart = refl
get_other (y ∷ xs) (suc i) (suc j) x apart = get_other xs i j x (λ e. apart (ap suc e))

-- one more that says what none says
pub pushed : {A : Type 0} (f : A → CellRow) (xs : List A) (y : A) (k : ℕ) → f y ≡ no_child
    → unwrap_or (option_map f (slice_get (xs ++ y ∷ []) k)) no_child ≡ unwrap_or (option_map f (slice_get xs k)) no_child
pushed f [] y zero e = e
pushed f [] y (suc k) e = refl
pushed f (x ∷ xs) y zero e = refl
pushed f (x ∷ xs) y (suc k) e = pushed f xs y k e

-- what a list says of the cells of one place, and of another
pub said_here : {A : Type 0} (f : A → CellRow) (xs : List A) (k : ℕ) (x : A) → slice_get xs k ≡ Some x → unwrap_or (option_map f (slice_get xs k)) no_child ≡ f x
said_here f xs k x is = ap (λ o. unwrap_or (option_map f o) no_child) is

pub said_other : {A : Type 0} (f : A → CellRow) (xs : List A) (k j : ℕ) (x : A) → j ≢ k
    → unwrap_or (option_map f (slice_get (set xs k x) j)) no_child ≡ unwrap_or (option_map f (slice_get xs j)) no_child
said_other f xs k j x apart = ap (λ o. unwrap_or (option_map f o) no_child) (get_other xs k j x apart)

-- what it says of those past its end
pub said_none : {A : Type 0} (f : A → CellRow) (xs : List A) (k : ℕ) → length xs ≤ k → unwrap_or (option_map f (slice_get xs k)) no_child ≡ no_child
said_none f xs k past = ap (λ o. unwrap_or (option_map f o) no_child) (slice_get_past xs k past)

-- two cells of a page have two places
pub place_apart : (i k : ℕ) → i / 32 ≡ k / 32 → i ≢ k → i % 32 ≢ k % 32
place_apart i k page apart = λ place. apart (omega (arith, page, place, div-add-mod i 32, div-add-mod k 32))
