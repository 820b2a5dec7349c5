-- What stands in a list.
use Rattle.std.proofs.Common.{◌≡◌, zero, suc, Bool, true, List, [], ◌∷◌, ◌++◌, map, refl, sym, ap, subst, inl, inr, arith}
use Rattle.std.specs.Prelude.{◌⊎◌, All}
use Rattle.std.specs.List.{list_any}
use Rattle.std.proofs.lemmas.Bool.{or_cases, or_left, or_right}
use Rattle.std.specs.List.Sorted.{IsPermutation}
use Rattle.std.proofs.lemmas.List.Sorted.{All-permutation}

abbrev pub In : {A : Type 0} → A → List A → Type 0
In x [] = ⊥
In x (y ∷ ys) = (x ≡ y) ⊎ In x ys

pub in_left : {A : Type 0} (x : A) (xs ys : List A) → In x xs → In x (xs ++ ys)
in_left x [] ys h = absurd h
in_left x (z ∷ xs) ys (inl e) = inl e
in_left x (z ∷ xs) ys (inr h) = inr (in_left x xs ys h)

pub in_right : {A : Type 0} (x : A) (xs ys : List A) → In x ys → In x (xs ++ ys)
in_right x [] ys h = h
in_right x (z ∷ xs) ys h = inr (in_right x xs ys h)

pub in_either : {A : Type 0} (x : A) (xs ys : List A) → In x (xs ++ ys) → In x xs ⊎ In x ys
in_either x [] ys h = inr h
in_either x (z ∷ xs) ys (inl e) = inl (inl e)
in_either x (z ∷ xs) ys (inr h) = elim (in_either x xs ys h) [ inl k ↦ inl (inr k) | inr k ↦ inr k ]

pub in_one : {A : Type 0} (x y : A) → In x (y ∷ []) → x ≡ y
in_one x y (inl e) = e
in_one x y (inr h) = absurd h

pub in_map : {A B : Type 0} (f : A → B) (x : A) (xs : List A) → In x xs → In (f x) (map f xs)
in_map f x [] h = absurd h
in_map f x (y ∷ ys) (inl e) = inl (ap f e)
in_map f x (y ∷ ys) (inr h) = inr (in_map f x ys h)

pub map_in : {A B : Type 0} (f : A → B) (y : B) (xs : List A) → In y (map f xs) → (x : A) × (In x xs × (y ≡ f x))
map_in f y [] h = absurd h
map_in f y (x ∷ xs) (inl e) = (x, (inl refl, e))
map_in f y (x ∷ xs) (inr h) = let r = map_in f y xs h in (r.0, (inr r.1.0, r.1.1))

-- ---- tests

pub any_in : {A : Type 0} (p : A → Bool) (xs : List A) → list_any p xs ≡ true → (x : A) × (In x xs × (p x ≡ true))
any_in p [] h = absurd cc
any_in p (x ∷ xs) h =
    elim (or_cases (p x) (list_any p xs) h) [
      | inl k ↦ (x, (inl refl, k))
      | inr k ↦ let r = any_in p xs k in (r.0, (inr r.1.0, r.1.1))
    ]

pub in_any : {A : Type 0} (p : A → Bool) (x : A) (xs : List A) → In x xs → p x ≡ true → list_any p xs ≡ true
in_any p x [] h k = absurd h
in_any p x (y ∷ ys) (inl e) k = or_left (p y) (list_any p ys) (subst (λ z. p z ≡ true) e k)
in_any p x (y ∷ ys) (inr h) k = or_right (p y) (list_any p ys) (in_any p x ys h k)

-- ---- all of them

pub all_in : {A : Type 0} (P : A → Type 0) (xs : List A) → All P xs → (x : A) → In x xs → P x
all_in P [] all x h = absurd h
all_in P (y ∷ ys) all x (inl e) = subst P (sym e) (all 0 y (omega arith))
all_in P (y ∷ ys) all x (inr h) = all_in P ys (λ k d within. all (suc k) d (omega (arith, within))) x h

pub in_all : {A : Type 0} (P : A → Type 0) (xs : List A) → ((x : A) → In x xs → P x) → All P xs
in_all P [] h k d within = absurd (omega (arith, within))
in_all P (y ∷ ys) h zero d within = h y (inl refl)
in_all P (y ∷ ys) h (suc k) d within = in_all P ys (λ x i. h x (inr i)) k d (omega (arith, within))

pub in_permuted : {A : Type 0} (xs ys : List A) → IsPermutation xs ys → (y : A) → In y ys → In y xs
in_permuted xs ys p y h = all_in (λ z. In z xs) ys (All-permutation (λ z. In z xs) xs ys p (in_all (λ z. In z xs) xs (λ x i. i))) y h
