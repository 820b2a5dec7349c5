-- Lists by their places.
use Rattle.std.proofs.Common.{◌≡◌, ◌≢◌, ◌<◌, ℕ, zero, suc, List, [], ◌∷◌, ◌++◌, length, map, set, take, drop, refl, sym, ap, subst, ◌∙◌, inl, inr}
use Rattle.std.specs.Prelude.{◌⊎◌, Contains, Some, None, slice_get}
use Rattle.std.specs.Prelude.{Result, Ok, Err, OnOk}
use Rattle.std.proofs.lemmas.List.{take-append-drop}
use Rattle.std.proofs.lemmas.List.Elements.{Contains-append_left}
use Rattle.std.proofs.lemmas.Option.{slice_get_within, get_or_from_slice_get}
use Rattle.ot_race.proofs.OrderLemmas.{some_is}
use Rattle.ot_race.proofs.PlaceLemmas.{place_there}
use Rattle.ot_race_locks.specs.OpenRaces.{Kind, IsDistinct}

pub none_some : {A : Type 0} (x : A) → None ≡ Some x → ⊥
none_some x h = cc

pub got_there : {A : Type 0} (xs : List A) (k : ℕ) (x : A) → slice_get xs k ≡ Some x → Contains xs x
got_there xs k x h = (k, slice_get_within xs k x h, get_or_from_slice_get xs k x x h)

pub got_within : {A : Type 0} (xs : List A) (k : ℕ) (x : A) → slice_get xs k ≡ Some x → k < length xs
got_within xs k x h = slice_get_within xs k x h

-- where an element is
pub got_of : {A : Type 0} (xs : List A) (x : A) → Contains xs x → (k : ℕ) × (slice_get xs k ≡ Some x)
got_of xs x h = (h.0, place_there xs h.0 x h.1 ∙ ap Some h.2)

pub get_push : {A : Type 0} (xs : List A) (x y : A) (k : ℕ) → slice_get (xs ++ x ∷ []) k ≡ Some y → (slice_get xs k ≡ Some y) ⊎ ((k ≡ length xs) × (x ≡ y))
get_push [] x y zero h = inr (refl, some_is x y h)
get_push [] x y (suc k) h = absurd (none_some y h)
get_push (z ∷ xs) x y zero h = inl h
get_push (z ∷ xs) x y (suc k) h = elim (get_push xs x y k h) [ inl old ↦ inl old | inr new ↦ inr (ap suc new.0, new.1) ]

pub get_set : {A : Type 0} (xs : List A) (p : ℕ) (x y : A) (k : ℕ) → slice_get (set xs p x) k ≡ Some y → (slice_get xs k ≡ Some y) ⊎ (x ≡ y)
get_set [] p x y k h = inl h
get_set (z ∷ xs) zero x y zero h = inr (some_is x y h)
get_set (z ∷ xs) zero x y (suc k) h = inl h
get_set (z ∷ xs) (suc p) x y zero h = inl h
get_set (z ∷ xs) (suc p) x y (suc k) h = get_set xs p x y k h

pub set_got : {A : Type 0} (xs : List A) (p : ℕ) (x y : A) (k : ℕ) → k ≢ p → slice_get xs k ≡ Some y → slice_get (set xs p x) k ≡ Some y
set_got [] p x y k apart h = h
set_got (z ∷ xs) zero x y zero apart h = absurd (apart refl)
set_got (z ∷ xs) zero x y (suc k) apart h = h
set_got (z ∷ xs) (suc p) x y zero apart h = h
set_got (z ∷ xs) (suc p) x y (suc k) apart h = set_got xs p x y k (λ e. apart (ap suc e)) h

pub set_at_place : {A : Type 0} (xs : List A) (p : ℕ) (x y : A) → slice_get xs p ≡ Some y → slice_get (set xs p x) p ≡ Some x
set_at_place [] p x y h = absurd (none_some y h)
set_at_place (z ∷ xs) zero x y h = refl
set_at_place (z ∷ xs) (suc p) x y h = set_at_place xs p x y h

-- an element that is replaced by one of the same view
pub map_set : {A B : Type 0} (f : A → B) (xs : List A) (p : ℕ) (x y : A) → slice_get xs p ≡ Some y → f x ≡ f y → map f (set xs p x) ≡ map f xs
map_set f [] p x y h same = refl
map_set f (z ∷ xs) zero x y h same = ap (λ b. b ∷ map f xs) (same ∙ ap f (sym (some_is z y h)))
map_set f (z ∷ xs) (suc p) x y h same = ap (λ bs. f z ∷ bs) (map_set f xs p x y h same)

pub map_push : {A B : Type 0} (f : A → B) (xs : List A) (x : A) → map f (xs ++ x ∷ []) ≡ map f xs ++ f x ∷ []
map_push f [] x = refl
map_push f (z ∷ xs) x = ap (λ bs. f z ∷ bs) (map_push f xs x)

-- an element whose view is there
pub map_got : {A B : Type 0} (f : A → B) (xs : List A) (k : ℕ) (b : B) → slice_get (map f xs) k ≡ Some b → (x : A) × (slice_get xs k ≡ Some x) × (f x ≡ b)
map_got f [] k b h = absurd (none_some b h)
map_got f (x ∷ xs) zero b h = (x, refl, some_is (f x) b h)
map_got f (x ∷ xs) (suc k) b h = map_got f xs k b h

pub distinct_push : (kinds : List Kind) (own : Kind) → IsDistinct kinds → (Contains kinds own → ⊥) → IsDistinct (kinds ++ own ∷ [])
distinct_push kinds own h other a b kind at_a at_b =
    elim (get_push kinds own kind a at_a) [
      | inl old_a ↦ elim (get_push kinds own kind b at_b) [
        | inl old_b ↦ h a b kind old_a old_b
        | inr new_b ↦ absurd (other (got_there kinds a own (old_a ∙ ap Some (sym new_b.1))))
      ]
      | inr new_a ↦ elim (get_push kinds own kind b at_b) [
        | inl old_b ↦ absurd (other (got_there kinds b own (old_b ∙ ap Some (sym new_a.1))))
        | inr new_b ↦ new_a.0 ∙ sym new_b.0
      ]
    ]

pub on_ok_always : {X Y : Type 0} {P : Type 0} (r : Result X Y) → P → OnOk r P
on_ok_always (Ok x) p = p
on_ok_always (Err y) p = tt

pub among_first : {A : Type 0} (n : ℕ) (xs : List A) (x : A) → Contains (take n xs) x → Contains xs x
among_first n xs x h = subst (λ ys. Contains ys x) (take-append-drop n xs) (Contains-append_left (take n xs) (drop n xs) x h)
