-- No name stands at two places among names of tenants.
use Rattle.std.proofs.Common.{◌≡◌, ◌&&◌, ◌||◌, ℕ, zero, suc, Bool, true, false, not, List, [], ◌∷◌, Some, refl, sym, ap, ◌∙◌}
use Rattle.std.specs.Prelude.{slice_get, unwrap_or}
use Rattle.std.specs.List.{list_any}
use Rattle.std.specs.Str.{bytes_eq}
use Rattle.std.proofs.lemmas.Slice.Eq.{bytes_eq-Decides}
use Rattle.ot_serve.specs.Serving.{are_tenants}

-- both tests pass
both : (a b : Bool) → (a && b) ≡ true → (a ≡ true) × (b ≡ true)
both true b passes = (refl, passes)
both false b passes = cc

-- neither test passes
neither : (a b : Bool) → (a || b) ≡ false → (a ≡ false) × (b ≡ false)
neither true b fails = cc
neither false b fails = (refl, fails)

from_not : (a : Bool) → not a ≡ true → a ≡ false
from_not true fails = cc
from_not false fails = refl

-- a name that none of the names equals stands nowhere among them
stands_nowhere : (name : List ℕ) (names : List (List ℕ)) (k : ℕ) → list_any (bytes_eq name) names ≡ false
    → slice_get names k ≡ Some name → ⊥
stands_nowhere name [] k none stands = cc
stands_nowhere name (n ∷ ns) zero none stands =
    let same : n ≡ name = ap (λ o. unwrap_or o n) stands in
    let equal : bytes_eq name n ≡ true = (bytes_eq-Decides name n).1 (sym same) in
    let other : bytes_eq name n ≡ false = (neither (bytes_eq name n) (list_any (bytes_eq name) ns) none).0 in
    cc
stands_nowhere name (n ∷ ns) (suc k) none stands = stands_nowhere name ns k (neither (bytes_eq name n) (list_any (bytes_eq name) ns) none).1 stands

-- what holds of names of tenants that begin with this one
first_of : (name : List ℕ) (names : List (List ℕ)) → are_tenants (name ∷ names) ≡ true → list_any (bytes_eq name) names ≡ false
first_of name names are = from_not _ (both _ _ (both _ _ are).0).1

rest_of : (name : List ℕ) (names : List (List ℕ)) → are_tenants (name ∷ names) ≡ true → are_tenants names ≡ true
rest_of name names are = (both _ _ are).1

-- the first name stands at no later place
not_later : (n name : List ℕ) (ns : List (List ℕ)) (k : ℕ) → are_tenants (n ∷ ns) ≡ true → Some n ≡ Some name
    → slice_get ns k ≡ Some name → ⊥
not_later n name ns k are first later =
    let same : n ≡ name = ap (λ o. unwrap_or o n) first in
    stands_nowhere n ns k (first_of n ns are) (later ∙ ap Some (sym same))

pub AreDistinct_of_tenants : (names : List (List ℕ)) → are_tenants names ≡ true
    → (i j : ℕ) (name : List ℕ) → slice_get names i ≡ Some name → slice_get names j ≡ Some name → i ≡ j
AreDistinct_of_tenants [] are i j name first second = cc
AreDistinct_of_tenants (n ∷ ns) are zero zero name first second = refl
AreDistinct_of_tenants (n ∷ ns) are zero (suc j) name first second = absurd (not_later n name ns j are first second)
AreDistinct_of_tenants (n ∷ ns) are (suc i) zero name first second = absurd (not_later n name ns i are second first)
AreDistinct_of_tenants (n ∷ ns) are (suc i) (suc j) name first second =
    ap suc (AreDistinct_of_tenants ns (rest_of n ns are) i j name first second)
