-- Clauses and sections by their length.
use Rattle.std.proofs.Common.{◌≡◌, ◌≢◌, true, false, List, [], ◌∷◌, length, get_or, codes, refl, sym, arith}
use Rattle.std.specs.Prelude.{Bool, ◌&&◌, ◌||◌, if◌then◌else◌, not, Some, None}
use Rattle.ot_model.specs.Programs.{Arrays}
use Rattle.serde_json.specs.Data.{array}
use Rattle.serde_json.specs.View.{view, items_view}
use Rattle.serde_json.specs.declared.value.Value.{Value}
use Rattle.ot_program.specs.Meanings.{Bindings, position_of, size, section, is_word}
use Rattle.ot_c_overlap.specs.Items.{depends, writes, is_iterated, is_difference}

pub no_clause : (reds : Bool) (vs : List Value) → length vs ≢ 2 → length vs ≢ 3 → depends reds (array (items_view vs)) ≡ None
no_clause reds (a ∷ b ∷ []) other three = absurd (other refl)
no_clause reds (a ∷ b ∷ c ∷ []) other three = absurd (three refl)
no_clause reds _ other three = refl

pub no_red : (vs : List Value) → length vs ≡ 3 → depends false (array (items_view vs)) ≡ None
no_red (a ∷ b ∷ c ∷ []) three = refl
no_red _ three = absurd (omega arith)

pub a_red : (vs : List Value) (a : Value) → length vs ≡ 3 → a ≡ get_or vs 2 a → depends true (array (items_view vs)) ≡ Some (view a)
a_red (x ∷ y ∷ z ∷ []) a three r = rw (sym r) refl
a_red _ a three r = absurd (omega arith)

pub ruleset reds = a_red

pub a_clause : (reds : Bool) (vs : List Value) (t a : Value) → length vs ≡ 2 → t ≡ get_or vs 0 t → a ≡ get_or vs 1 a
    → depends reds (array (items_view vs)) ≡ (if is_word (view t) (codes "red") && not reds then None else Some (view a))
a_clause reds (x ∷ y ∷ []) t a two p q = rw (sym p, sym q) refl
a_clause reds _ t a two p q = absurd (omega arith)

pub ruleset clauses = (no_clause, no_red, a_clause)

pub no_word : (vs : List Value) → length vs ≢ 2 → writes (array (items_view vs)) ≡ false
no_word (a ∷ b ∷ []) other = absurd (other refl)
no_word _ other = refl

pub a_word : (vs : List Value) (t : Value) → length vs ≡ 2 → t ≡ get_or vs 0 t → writes (array (items_view vs)) ≡ not (is_word (view t) (codes "in") || is_word (view t) (codes "red"))
a_word (x ∷ y ∷ []) t two p = rw (sym p) refl
a_word _ t two p = absurd (omega arith)

pub ruleset words = (no_word, a_word)

pub no_section : (shape : Arrays) (variables : Bindings) (vs : List Value) → length vs ≢ 3
    → section shape variables (array (items_view vs)) ≡ record { array = 0; start = 0; len = 0 }
no_section shape variables (a ∷ b ∷ c ∷ []) other = absurd (other refl)
no_section shape variables _ other = refl

pub a_section : (shape : Arrays) (variables : Bindings) (vs : List Value) (n a b : Value) → length vs ≡ 3 → n ≡ get_or vs 0 n → a ≡ get_or vs 1 a → b ≡ get_or vs 2 b
    → section shape variables (array (items_view vs)) ≡ record { array = position_of shape (view n); start = size variables (view a); len = size variables (view b) }
a_section shape variables (x ∷ y ∷ z ∷ []) n a b three p q r = rw (sym p, sym q, sym r) refl
a_section shape variables _ n a b three p q r = absurd (omega arith)

pub ruleset sections = (no_section, a_section)

-- ---- sections of iterators

pub no_iterated : (vs : List Value) → length vs ≢ 3 → is_iterated (array (items_view vs)) ≡ false
no_iterated (a ∷ b ∷ c ∷ []) other = absurd (other refl)
no_iterated _ other = refl

pub an_iterated : (vs : List Value) (b : Value) → length vs ≡ 3 → b ≡ get_or vs 2 b → is_iterated (array (items_view vs)) ≡ is_difference (view b)
an_iterated (x ∷ y ∷ z ∷ []) b three r = rw (sym r) refl
an_iterated _ b three r = absurd (omega arith)

pub ruleset iterated = (no_iterated, an_iterated)

pub no_difference : (vs : List Value) → length vs ≢ 3 → is_difference (array (items_view vs)) ≡ false
no_difference (a ∷ b ∷ c ∷ []) other = absurd (other refl)
no_difference _ other = refl

pub a_difference : (vs : List Value) (t : Value) → length vs ≡ 3 → t ≡ get_or vs 0 t → is_difference (array (items_view vs)) ≡ is_word (view t) (codes "-")
a_difference (x ∷ y ∷ z ∷ []) t three p = rw (sym p) refl
a_difference _ t three p = absurd (omega arith)

pub ruleset differences = (no_difference, a_difference)
