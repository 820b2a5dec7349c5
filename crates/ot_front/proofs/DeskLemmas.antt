-- Where a name stands on a desk.
use Rattle.std.proofs.Common.{◌≡◌, ◌≢◌, ℕ, ◌<◌, List, length, map, get_or, true, ap, refl, sym, ◌∙◌}
use Rattle.std.specs.Prelude.{Option, Some, None, option_map, slice_get, bytes_eq}
use Rattle.std.proofs.lemmas.Slice.Eq.{bytes_eq-Decides}
use Rattle.std.proofs.lemmas.Option.{slice_get-map, slice_get_read, slice_get_within, get_or_from_slice_get}
use Rattle.ot_front.specs.Desks.{AreDistinct, IsDeskOf}

pub place_found : (names : List (List ℕ)) (name : List ℕ) (at : ℕ) → AreDistinct names → slice_get names at ≡ Some name → IsDeskOf names name (Some at)
place_found names name at distinct stands = λ k. (λ is. cc, λ here. ap Some (distinct at k name stands here))

pub place_none : (names : List (List ℕ)) (name : List ℕ) → ((k : ℕ) → slice_get names k ≢ Some name) → IsDeskOf names name None
place_none names name nowhere = λ k. (λ is. absurd (cc), λ here. absurd (nowhere k here))

-- ---- a list of things with names

pub named_at : {A : Type 0} (f : A → List ℕ) (items known : List A) (at : ℕ) (x : A) (name : List ℕ) → known ≡ items → at < length known → x ≡ get_or known at x → f x ≡ name →
    slice_get (map f items) at ≡ Some name
named_at f items known at x name same within is named =
    ap (λ xs. slice_get (map f xs) at) (sym same)
    ∙ slice_get-map f known at
    ∙ ap (option_map f) (slice_get_read known (length known) at x refl within is)
    ∙ ap Some named

mapped : {A : Type 0} (f : A → List ℕ) (o : Option A) (y : List ℕ) → option_map f o ≡ Some y → (x : A) × (o ≡ Some x) × (f x ≡ y)
mapped f None y is = absurd (cc)
mapped f (Some x) y is = (x, refl, cc)

pub named_nowhere : {A : Type 0} (f : A → List ℕ) (items known : List A) (name : List ℕ) → known ≡ items →
    ((k : ℕ) (d : A) → k < length known → f (get_or known k d) ≡ name → ⊥) → (k : ℕ) → slice_get (map f items) k ≢ Some name
named_nowhere f items known name same others k here =
    let one = mapped f (slice_get known k) name (sym (slice_get-map f known k) ∙ ap (λ xs. slice_get (map f xs) k) same ∙ here) in
    others k one.0 (slice_get_within known k one.0 one.1) (ap f (get_or_from_slice_get known k one.0 one.0 one.1) ∙ one.2)

pub bytes_eq-same : (a b : List ℕ) → bytes_eq a b ≡ true → a ≡ b
bytes_eq-same a b same = (bytes_eq-Decides a b).0 same
