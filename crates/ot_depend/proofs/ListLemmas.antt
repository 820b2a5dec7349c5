-- Lists of numbers, and one changed element of a list.
use Rattle.std.proofs.Common.{◌≡◌, ◌≢◌, ◌==◌, ◌||◌, ◌+◌, ◌-◌, ℕ, zero, suc, List, [], ◌∷◌, ◌++◌, Bool, true, false, cond, map, set, length, Some, ◌⊎◌, inl, inr, refl, sym, ap, ◌∙◌, subst, arith}
use Rattle.std.specs.List.{slice_get, sum_by}
use Rattle.std.specs.Option.{option_map, unwrap_or}
use Rattle.std.proofs.lemmas.Bool.{eq-eqb, ne_eqb}
use Rattle.std.proofs.lemmas.Option.{same_Some, none-some}
use Rattle.std.proofs.lemmas.List.{length-append}
use Rattle.std.proofs.lemmas.List.Folds.{list_any-append}
use Rattle.std.proofs.lemmas.List.Sums.{sum_by-cons, sum_by-append}
use Rattle.ot_model.specs.Cells.{updated}
use Rattle.ot_depend.specs.Siblings.{has, times}
use Rattle.ot_depend.specs.Kept.{ends_with, with_last}

-- an element of a list with one changed was there before
pub updated_back : {A : Type 0} (f : A → A) (xs : List A) (i j : ℕ) (y : A) → slice_get (updated xs i f) j ≡ Some y → (x : A) × (slice_get xs j ≡ Some x) × (((i ≡ j) × (y ≡ f x)) ⊎ ((i ≢ j) × (y ≡ x)))
updated_back f [] i j y there = absurd (none-some y there)
updated_back f (x ∷ xs) zero zero y there = (x, refl, inl (refl, sym (same_Some (f x) y there)))
updated_back f (x ∷ xs) zero (suc j) y there = (y, there, inr (λ is. omega (arith, is), refl))
updated_back f (x ∷ xs) (suc i) zero y there = (x, refl, inr (λ is. omega (arith, is), sym (same_Some x y there)))
updated_back f (x ∷ xs) (suc i) (suc j) y there =
    let old = updated_back f xs i j y there in
    (old.0, old.1, elim old.2 [ inl here ↦ inl (ap suc here.0, here.1) | inr other ↦ inr (λ is. other.0 (omega (arith, is)), other.1) ])

-- the image of a list with one changed
pub map-updated-by : {A B : Type 0} (g : A → B) (f : A → A) (h : B → B) → ((x : A) → g (f x) ≡ h (g x)) → (xs : List A) (i : ℕ) → map g (updated xs i f) ≡ updated (map g xs) i h
map-updated-by g f h same [] i = refl
map-updated-by g f h same (x ∷ xs) zero = ap (λ y. y ∷ map g xs) (same x)
map-updated-by g f h same (x ∷ xs) (suc i) = ap (λ ys. g x ∷ ys) (map-updated-by g f h same xs i)

-- a sum over a list with one changed
pub sum_by-updated-same : {A : Type 0} (g : A → ℕ) (f : A → A) → ((x : A) → g (f x) ≡ g x) → (xs : List A) (i : ℕ) → sum_by g (updated xs i f) ≡ sum_by g xs
sum_by-updated-same g f same [] i = refl
sum_by-updated-same g f same (x ∷ xs) zero = sum_by-cons g (f x) xs ∙ ap (λ m. m + sum_by g xs) (same x) ∙ sym (sum_by-cons g x xs)
sum_by-updated-same g f same (x ∷ xs) (suc i) = sum_by-cons g x (updated xs i f) ∙ ap (λ m. g x + m) (sum_by-updated-same g f same xs i) ∙ sym (sum_by-cons g x xs)

pub sum_by-updated : {A : Type 0} (g : A → ℕ) (f : A → A) (xs : List A) (i : ℕ) (x : A) → slice_get xs i ≡ Some x → sum_by g (updated xs i f) + g x ≡ sum_by g xs + g (f x)
sum_by-updated g f [] i x there = absurd (none-some x there)
sum_by-updated g f (y ∷ xs) zero x there =
    let is : g x ≡ g y = ap g (sym (same_Some y x there)) in
    let is_f : g (f x) ≡ g (f y) = ap (λ z. g (f z)) (sym (same_Some y x there)) in
    omega (arith, sum_by-cons g (f y) xs, sum_by-cons g y xs)
sum_by-updated g f (y ∷ xs) (suc i) x there = omega (arith, sum_by-cons g y (updated xs i f), sum_by-cons g y xs, sum_by-updated g f xs i x there)

-- an element of a list with one behind
pub slice_get-push_place : {A : Type 0} (xs : List A) (y : A) (i : ℕ) (x : A) → slice_get (xs ++ y ∷ []) i ≡ Some x → (slice_get xs i ≡ Some x) ⊎ ((i ≡ length xs) × (x ≡ y))
slice_get-push_place [] y zero x there = inr (refl, sym (same_Some y x there))
slice_get-push_place [] y (suc i) x there = absurd (none-some x there)
slice_get-push_place (z ∷ xs) y zero x there = inl there
slice_get-push_place (z ∷ xs) y (suc i) x there = elim (slice_get-push_place xs y i x there) [ inl old ↦ inl old | inr last ↦ inr (ap suc last.0, last.1) ]

-- the last of a list
last-push : (xs : List ℕ) (n : ℕ) → slice_get (xs ++ n ∷ []) (length xs) ≡ Some n
last-push [] n = refl
last-push (x ∷ xs) n = last-push xs n

pub ends_with-push : (n : ℕ) (xs : List ℕ) → ends_with n (xs ++ n ∷ []) ≡ true
ends_with-push n xs =
    let len : length (xs ++ n ∷ []) - 1 ≡ length xs = omega (arith, length-append xs (n ∷ [])) in
    ap (λ k. unwrap_or (option_map (λ x. x == n) (slice_get (xs ++ n ∷ []) k)) false) len
    ∙ ap (λ o. unwrap_or (option_map (λ x. x == n) o) false) (last-push xs n) ∙ eq-eqb n n refl

has_at : (n : ℕ) (xs : List ℕ) (i : ℕ) → unwrap_or (option_map (λ x. x == n) (slice_get xs i)) false ≡ true → has n xs ≡ true
has_at n [] i passed = passed
has_at n (x ∷ xs) zero passed = ap (λ b. b || has n xs) passed
has_at n (x ∷ xs) (suc i) passed = by (x == n) (has_at n xs i passed)
  where
    by : (b : Bool) → has n xs ≡ true → (b || has n xs) ≡ true
    by true there = refl
    by false there = there

pub has-from_end : (n : ℕ) (xs : List ℕ) → ends_with n xs ≡ true → has n xs ≡ true
has-from_end n xs = has_at n xs (length xs - 1)

-- with a number put behind, once
pub with_last-twice : (n : ℕ) (xs : List ℕ) → with_last n (with_last n xs) ≡ with_last n xs
with_last-twice n xs = by (ends_with n xs) refl
  where
    by : (b : Bool) → ends_with n xs ≡ b → with_last n (with_last n xs) ≡ with_last n xs
    by true is = ap (with_last n) (ap (λ b. cond b xs (xs ++ n ∷ [])) is)
    by false is =
        let grown : with_last n xs ≡ xs ++ n ∷ [] = ap (λ b. cond b xs (xs ++ n ∷ [])) is in
        ap (with_last n) grown ∙ ap (λ b. cond b (xs ++ n ∷ []) ((xs ++ n ∷ []) ++ n ∷ [])) (ends_with-push n xs) ∙ sym grown

pub has-with_last : (n : ℕ) (xs : List ℕ) → has n (with_last n xs) ≡ true
has-with_last n xs = by (ends_with n xs) refl
  where
    by : (b : Bool) → ends_with n xs ≡ b → has n (cond b xs (xs ++ n ∷ [])) ≡ true
    by true is = has-from_end n xs is
    by false is = has-from_end n (xs ++ n ∷ []) (ends_with-push n xs)

pub has-with_last-kept : (j n : ℕ) (xs : List ℕ) → has j xs ≡ true → has j (with_last n xs) ≡ true
has-with_last-kept j n xs there = by (ends_with n xs)
  where
    by : (b : Bool) → has j (cond b xs (xs ++ n ∷ [])) ≡ true
    by true = there
    by false = list_any-append (λ x. x == j) xs (n ∷ []) ∙ ap (λ b. b || has j (n ∷ [])) there

pub has-with_last-other : (j n : ℕ) (xs : List ℕ) → j ≢ n → has j (with_last n xs) ≡ has j xs
has-with_last-other j n xs apart = by (ends_with n xs)
  where
    false_behind : (b : Bool) → (b || false) ≡ b
    false_behind true = refl
    false_behind false = refl

    by : (b : Bool) → has j (cond b xs (xs ++ n ∷ [])) ≡ has j xs
    by true = refl
    by false = list_any-append (λ x. x == j) xs (n ∷ []) ∙ ap (λ b. has j xs || (b || false)) (ne_eqb n j (λ is. apart (sym is))) ∙ false_behind (has j xs)

times-push : (j n : ℕ) (xs : List ℕ) → times j (xs ++ n ∷ []) ≡ times j xs + cond (n == j) 1 0
times-push j n xs = sum_by-append (λ x. cond (x == j) 1 0) xs (n ∷ []) ∙ ap (λ m. times j xs + m) (sum_by-cons (λ x. cond (x == j) 1 0) n [] ∙ omega arith)

pub times-with_last-other : (j n : ℕ) (xs : List ℕ) → j ≢ n → times j (with_last n xs) ≡ times j xs
times-with_last-other j n xs apart = by (ends_with n xs)
  where
    by : (b : Bool) → times j (cond b xs (xs ++ n ∷ [])) ≡ times j xs
    by true = refl
    by false = times-push j n xs ∙ ap (λ (b : Bool). times j xs + cond {A = ℕ} b 1 0) (ne_eqb n j (λ is. apart (sym is))) ∙ omega arith

-- it is put there once where it does not stand at the end
pub times-with_last : (n : ℕ) (xs : List ℕ) → times n (with_last n xs) ≡ times n xs + cond (ends_with n xs) 0 1
times-with_last n xs = by (ends_with n xs)
  where
    by : (b : Bool) → times n (cond b xs (xs ++ n ∷ [])) ≡ times n xs + cond b 0 1
    by true = omega arith
    by false = times-push n n xs ∙ ap (λ (b : Bool). times n xs + cond {A = ℕ} b 1 0) (eq-eqb n n refl)

pub times-cons : (n x : ℕ) (xs : List ℕ) → times n (x ∷ xs) ≡ cond (x == n) 1 0 + times n xs
times-cons n x xs = sum_by-cons (λ y. cond (y == n) 1 0) x xs

-- what holds of each element that may stand at a place still does after a write of one of which it holds
pub kept_at : {A : Type 0} (P : A → Type 0) (xs : List A) (j p : ℕ) (new : A) → P new → ((c : A) → slice_get xs p ≡ Some c → P c) → (c : A) → slice_get (set xs j new) p ≡ Some c → P c
kept_at P [] j p new holds all c there = all c there
kept_at P (x ∷ xs) zero zero new holds all c there = subst P (same_Some new c there) holds
kept_at P (x ∷ xs) zero (suc p) new holds all c there = all c there
kept_at P (x ∷ xs) (suc j) zero new holds all c there = all c there
kept_at P (x ∷ xs) (suc j) (suc p) new holds all c there = kept_at P xs j p new holds all c there

pub here_at : {A : Type 0} (P : A → Type 0) (xs : List A) (j : ℕ) (new : A) → P new → (c : A) → slice_get (set xs j new) j ≡ Some c → P c
here_at P [] j new holds c there = absurd (none-some c there)
here_at P (x ∷ xs) zero new holds c there = subst P (same_Some new c there) holds
here_at P (x ∷ xs) (suc j) new holds c there = here_at P xs j new holds c there
