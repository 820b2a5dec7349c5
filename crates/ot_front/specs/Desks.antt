-- A desk: the names of tenants, each with a place of its own.
use Rattle.std.specs.Prelude.{◌≡◌, ◌↔◌, ℕ, List, Option, Some, slice_get}

-- no name stands at two places
abbrev pub AreDistinct : List (List ℕ) → Type 0
AreDistinct names = (i j : ℕ) (name : List ℕ) → slice_get names i ≡ Some name → slice_get names j ≡ Some name → i ≡ j

-- the name stands at some place
abbrev pub IsKnown : List (List ℕ) → List ℕ → Type 0
IsKnown names name = (k : ℕ) × (slice_get names k ≡ Some name)

-- the place at which the name stands, counted from 0, or none where it stands nowhere
abbrev pub IsDeskOf : List (List ℕ) → List ℕ → Option ℕ → Type 0
IsDeskOf names name place = (k : ℕ) → (place ≡ Some k) ↔ (slice_get names k ≡ Some name)
