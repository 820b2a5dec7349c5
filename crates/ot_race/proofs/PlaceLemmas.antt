-- Elements of lists by their places, where what is past the end is a default.
use Rattle.std.proofs.Common.{◌≡◌, ◌≢◌, ℕ, zero, suc, ◌<◌, List, [], ◌∷◌, ◌++◌, length, map, set, get_or, refl, sym, ap, arith}
use Rattle.std.proofs.lemmas.Bool.Decides.{nat_tests}
use Rattle.std.specs.Prelude.{true, nat_lt, Some, None, slice_get}

less_of : (k n : ℕ) → true ≡ nat_lt k n → k < n
less_of k n h = grind (arith, nat_tests)

none_some : {A : Type 0} (x : A) → None ≡ Some x → ⊥
none_some x h = cc

some_same : {A : Type 0} (x y : A) → Some x ≡ Some y → x ≡ y
some_same x y h = cc

-- a default more changes nothing
pub pushed : {A B : Type 0} (f : A → B) (xs : List A) (y : A) (d : B) (k : ℕ) → f y ≡ d → get_or (map f (xs ++ y ∷ [])) k d ≡ get_or (map f xs) k d
pushed f [] y d zero e = e
pushed f [] y d (suc k) e = refl
pushed f (x ∷ xs) y d zero e = refl
pushed f (x ∷ xs) y d (suc k) e = pushed f xs y d k e

-- what stands at a place
pub read_at : {A B : Type 0} (f : A → B) (xs : List A) (k : ℕ) (x : A) (d : B) → slice_get xs k ≡ Some x → get_or (map f xs) k d ≡ f x
read_at f [] k x d h = absurd (none_some x h)
read_at f (y ∷ xs) zero x d h = ap f (some_same y x h)
read_at f (y ∷ xs) (suc k) x d h = read_at f xs k x d h

-- one that is replaced
pub set_here : {A B : Type 0} (f : A → B) (xs : List A) (k : ℕ) (x : A) (d : B) → k < length xs → get_or (map f (set xs k x)) k d ≡ f x
set_here f [] k x d l = absurd (omega (arith, l))
set_here f (y ∷ xs) zero x d l = refl
set_here f (y ∷ xs) (suc k) x d l = set_here f xs k x d (omega (arith, l))

pub set_other : {A B : Type 0} (f : A → B) (xs : List A) (k j : ℕ) (x : A) (d : B) → j ≢ k → get_or (map f (set xs k x)) j d ≡ get_or (map f xs) j d
set_other f [] k j x d apart = refl
set_other f (y ∷ xs) zero zero x d apart = absurd (apart refl)
set_other f (y ∷ xs) zero (suc j) x d apart = refl
set_other f (y ∷ xs) (suc k) zero x d apart = refl
set_other f (y ∷ xs) (suc k) (suc j) x d apart = set_other f xs k j x d (λ e. apart (ap suc e))

-- an element whose place is known
pub place_read : {A : Type 0} (xs : List A) (k : ℕ) (x : A) → k < length xs → x ≡ get_or xs k x → slice_get xs k ≡ Some x
place_read [] k x l h = absurd (omega (arith, l))
place_read (y ∷ xs) zero x l h = ap Some (sym h)
place_read (y ∷ xs) (suc k) x l h = place_read xs k x (omega (arith, l)) h

pub place_there : {A : Type 0} (xs : List A) (k : ℕ) (d : A) → k < length xs → slice_get xs k ≡ Some (get_or xs k d)
place_there [] k d l = absurd (omega (arith, l))
place_there (y ∷ xs) zero d l = refl
place_there (y ∷ xs) (suc k) d l = place_there xs k d (omega (arith, l))

pub place_found : {A : Type 0} (xs : List A) (k : ℕ) (x : A) → true ≡ nat_lt k (length xs) → x ≡ get_or xs k x → slice_get xs k ≡ Some x
place_found xs k x l h = place_read xs k x (less_of k (length xs) l) h

pub place_map : {A B : Type 0} (f : A → B) (xs : List A) (k : ℕ) (x : A) → slice_get xs k ≡ Some x → slice_get (map f xs) k ≡ Some (f x)
place_map f [] k x h = absurd (none_some x h)
place_map f (y ∷ xs) zero x h = ap Some (ap f (some_same y x h))
place_map f (y ∷ xs) (suc k) x h = place_map f xs k x h

pub place_within : {A : Type 0} (xs : List A) (k : ℕ) (x : A) → slice_get xs k ≡ Some x → k < length xs
place_within [] k x h = absurd (none_some x h)
place_within (y ∷ xs) zero x h = omega arith
place_within (y ∷ xs) (suc k) x h = let l = place_within xs k x h in omega (arith, l)

-- the event that stands at a place
pub place_event : {A B : Type 0} (f : A → B) (xs : List A) (k : ℕ) (d : A) → k < length xs → slice_get (map f xs) k ≡ Some (f (get_or xs k d))
place_event f [] k d l = absurd (omega (arith, l))
place_event f (y ∷ xs) zero d l = refl
place_event f (y ∷ xs) (suc k) d l = place_event f xs k d (omega (arith, l))
