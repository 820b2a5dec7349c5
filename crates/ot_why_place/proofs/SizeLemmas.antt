-- What a size is, by its form.
use Rattle.std.proofs.Common.{◌≡◌, ◌≢◌, ℕ, List, [], ◌∷◌, length, get_or, refl, sym, arith, rules, Vec, Global, String}
use Rattle.std.specs.Prelude.{unwrap_or, string_bytes}
use Rattle.serde_json.specs.Data.{Num, number, string, array}
use Rattle.serde_json.specs.View.{view, items_view, number_view}
use Rattle.serde_json.specs.declared.value.Value.{Value, the_lemmas, Number as JsonNumber, String as JsonString, Array as JsonArray}
use Rattle.serde_json.specs.declared.number.Number.{Number}
use Rattle.ot_program.specs.Meanings.{Bindings, number_bound, exact, sign_of, size, whole_number}

pub view-Number : (n : Number) → view (JsonNumber n) ≡ number (number_view n)
view-Number n = search (rules, the_lemmas)

pub view-String : (s : String Global) → view (JsonString s) ≡ string (string_bytes s)
view-String s = search (rules, the_lemmas)

pub size-number : (variables : Bindings) (n : Num) → size variables (number n) ≡ unwrap_or (whole_number n) 0
unfolding size
size-number variables n = refl

pub size-string : (variables : Bindings) (s : List ℕ) → size variables (string s) ≡ unwrap_or (number_bound variables s) 0
unfolding size
size-string variables s = refl

pub no_size_but_three : (variables : Bindings) (vs : List Value) → length vs ≢ 3 → size variables (array (items_view vs)) ≡ 0
unfolding size
no_size_but_three variables (a ∷ b ∷ c ∷ []) other = absurd (other refl)
no_size_but_three variables _ other = refl

pub size-three : (variables : Bindings) (vs : List Value) (t a b : Value) → length vs ≡ 3 → t ≡ get_or vs 0 t → a ≡ get_or vs 1 a → b ≡ get_or vs 2 b
    → size variables (array (items_view vs)) ≡ unwrap_or (exact (sign_of (view t)) (size variables (view a)) (size variables (view b))) 0
unfolding size
size-three variables (x ∷ y ∷ z ∷ []) t a b three p q r = rw (sym p, sym q, sym r) refl
size-three variables _ t a b three p q r = absurd (omega arith)

pub ruleset sizes = (size-number, size-string, no_size_but_three, size-three)

pub no_size : (variables : Bindings) (v : Value) → ((n : Number) → v ≢ JsonNumber n) → ((s : String Global) → v ≢ JsonString s)
    → ((w : Vec Value Global) → v ≢ JsonArray w) → size variables (view v) ≡ 0
unfolding size
no_size variables v a b c = search (rules, the_lemmas)
