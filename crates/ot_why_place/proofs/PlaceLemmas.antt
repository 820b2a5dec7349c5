-- An item by its index, and which spot is sought.
use Rattle.std.proofs.Common.{◌≡◌, ◌<◌, ◌≤◌, ℕ, zero, suc, Bool, true, false, cond, List, [], ◌∷◌, length, get_or, refl, arith}
use Rattle.std.specs.Prelude.{filter, slice_get, Some, None, option_map}
use Rattle.ot_program.specs.Meanings.{items}
use Rattle.serde_json.specs.Data.{array}
use Rattle.serde_json.specs.View.{view, items_view}
use Rattle.serde_json.specs.declared.value.Value.{Value}
use Rattle.ot_why_place.specs.Spots.{Spot, is_statement, place_at}
use Rattle.ot_why_place.specs.Seeking.{Sought, meet, seek, met_in, counts_by}
use Rattle.ot_why_place.specs.declared.walk.Which.TheVariants as w

pub item_there : (vs : List Value) (i : ℕ) (v : Value) → i < length vs → v ≡ get_or vs i v → slice_get (items (array (items_view vs))) i ≡ Some (view v)
item_there [] i v within is = absurd (omega (arith, within))
item_there (x ∷ vs) zero v within is = rw is refl
item_there (x ∷ vs) (suc i) v within is = item_there vs i v (omega arith) is

pub item_past : (vs : List Value) (i : ℕ) → length vs ≤ i → slice_get (items (array (items_view vs))) i ≡ None
item_past [] i past = refl
item_past (x ∷ vs) zero past = absurd (omega (arith, past))
item_past (x ∷ vs) (suc i) past = item_past vs i (omega arith)

pub ruleset items_at = (item_there, item_past)

-- ---- which spot is sought

pub sought_among_all : (n : ℕ) (ss : List Spot) → met_in (seek (counts_by w.All) n ss) ≡ option_map place_at (slice_get ss n)
sought_among_all n [] = refl
sought_among_all zero (s ∷ ss) = refl
sought_among_all (suc n) (s ∷ ss) = sought_among_all n ss

chosen : (b : Bool) (s : Spot) (n : ℕ) (rest : ℕ → Sought) (ss : List Spot) → ((m : ℕ) → met_in (rest m) ≡ option_map place_at (slice_get ss m))
    → met_in (cond b (meet s n rest) (rest n)) ≡ option_map place_at (slice_get (cond b (s ∷ ss) ss) n)
chosen false s n rest ss h = h n
chosen true s zero rest ss h = refl
chosen true s (suc n) rest ss h = h n

pub sought_among_statements : (n : ℕ) (ss : List Spot)
    → met_in (seek (counts_by w.Statements) n ss) ≡ option_map place_at (slice_get (filter (λ s. is_statement s.placed.text) ss) n)
sought_among_statements n [] = refl
sought_among_statements n (s ∷ ss) =
    chosen (is_statement s.placed.text) s n (λ m. seek (counts_by w.Statements) m ss) (filter (λ s. is_statement s.placed.text) ss)
    (λ m. sought_among_statements m ss)
