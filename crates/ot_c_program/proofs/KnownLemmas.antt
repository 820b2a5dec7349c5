-- The number of a value, by its form.
use Rattle.std.proofs.Common.{◌≡◌, ◌≢◌, ℕ, List, [], ◌∷◌, length, get_or, refl, sym, arith, rules, Vec, Global, String}
use Rattle.std.specs.Prelude.{None}
use Rattle.serde_json.specs.Data.{Num, number, string, array}
use Rattle.serde_json.specs.View.{view, items_view}
use Rattle.serde_json.specs.declared.value.Value.{Value, the_lemmas, Number as JsonNumber, String as JsonString, Array as JsonArray}
use Rattle.serde_json.specs.declared.number.Number.{Number}
use Rattle.ot_program.specs.Meanings.{Bindings, number_bound, whole_number}
use Rattle.ot_c_program.specs.Turns.{operation_number, number_at_turn, word_operation}

pub known-number : (variables : Bindings) (n : Num) → number_at_turn variables (number n) ≡ whole_number n
unfolding number_at_turn
known-number variables n = refl

pub known-string : (variables : Bindings) (s : List ℕ) → number_at_turn variables (string s) ≡ number_bound variables s
unfolding number_at_turn
known-string variables s = refl

pub none_but_three : (variables : Bindings) (vs : List Value) → length vs ≢ 3 → number_at_turn variables (array (items_view vs)) ≡ None
unfolding number_at_turn
none_but_three variables (a ∷ b ∷ c ∷ []) other = absurd (other refl)
none_but_three variables _ other = refl

pub known-three : (variables : Bindings) (vs : List Value) (t a b : Value) → length vs ≡ 3 → t ≡ get_or vs 0 t → a ≡ get_or vs 1 a → b ≡ get_or vs 2 b
    → number_at_turn variables (array (items_view vs)) ≡ operation_number (word_operation (view t)) (number_at_turn variables (view a)) (number_at_turn variables (view b))
unfolding number_at_turn
known-three variables (x ∷ y ∷ z ∷ []) t a b three p q r = rw (sym p, sym q, sym r) refl
known-three variables _ t a b three p q r = absurd (omega arith)

pub ruleset numbers = (known-number, known-string, none_but_three, known-three)

pub none_known : (variables : Bindings) (v : Value) → ((n : Number) → v ≢ JsonNumber n) → ((s : String Global) → v ≢ JsonString s)
    → ((w : Vec Value Global) → v ≢ JsonArray w) → number_at_turn variables (view v) ≡ None
unfolding number_at_turn
none_known variables v a b c = search (rules, the_lemmas)
