-- Parts that are of no form, by how many items they have.
use Rattle.std.proofs.Common.{◌≡◌, ◌≢◌, ◌+◌, max, List, [], ◌∷◌, length, get_or, refl, sym, arith, rules, Vec, Global, String}
use Rattle.serde_json.specs.Data.{array}
use Rattle.serde_json.specs.View.{view, items_view}
use Rattle.serde_json.specs.declared.value.Value.{Value, the_lemmas, Number as JsonNumber, String as JsonString, Array as JsonArray}
use Rattle.serde_json.specs.declared.number.Number.{Number}
use Rattle.ot_model.specs.Programs.{Arrays}
use Rattle.ot_model.specs.Tree.{Literal}
use Rattle.ot_program.specs.Limits.{size_depth}
use Rattle.ot_program.specs.Meanings.{Bindings, section, value}
use Rattle.ot_why_fault.specs.Whys.{Form, size_whys, cell_whys, section_whys, value_whys, wait_clause_whys}
use Rattle.ot_why_fault.specs.declared.why.Wanted.TheVariants as wanted

-- ---- sizes

pub no_size_but_three : (variables : Bindings) (vs : List Value) → length vs ≢ 3
    → size_whys variables (array (items_view vs)) ≡ Form (array (items_view vs)) wanted.Size ∷ []
unfolding size_whys
no_size_but_three variables (a ∷ b ∷ c ∷ []) other = absurd (other refl)
no_size_but_three variables _ other = refl

pub no_size : (variables : Bindings) (v : Value) → ((n : Number) → v ≢ JsonNumber n) → ((s : String Global) → v ≢ JsonString s)
    → ((w : Vec Value Global) → v ≢ JsonArray w) → size_whys variables (view v) ≡ Form (view v) wanted.Size ∷ []
unfolding size_whys
no_size variables v a b c = search (rules, the_lemmas)

pub no_depth_but_three : (vs : List Value) → length vs ≢ 3 → size_depth (array (items_view vs)) ≡ 1
unfolding size_depth
no_depth_but_three (a ∷ b ∷ c ∷ []) other = absurd (other refl)
no_depth_but_three _ other = refl

pub size_depth-three : (vs : List Value) (a b : Value) → length vs ≡ 3 → a ≡ get_or vs 1 a → b ≡ get_or vs 2 b
    → size_depth (array (items_view vs)) ≡ 1 + max (size_depth (view a)) (size_depth (view b))
unfolding size_depth
size_depth-three (x ∷ y ∷ z ∷ []) a b three q r = rw (sym q, sym r) refl
size_depth-three _ a b three q r = absurd (omega arith)

-- ---- cells, sections and values

pub no_cell_but_three : (shape : Arrays) (variables : Bindings) (vs : List Value) → length vs ≢ 3
    → cell_whys shape variables (array (items_view vs)) ≡ Form (array (items_view vs)) wanted.Cell ∷ []
no_cell_but_three shape variables (a ∷ b ∷ c ∷ []) other = absurd (other refl)
no_cell_but_three shape variables _ other = refl

pub no_section_but_three : (shape : Arrays) (variables : Bindings) (vs : List Value) → length vs ≢ 3
    → section_whys shape variables (array (items_view vs)) ≡ Form (array (items_view vs)) wanted.Section ∷ []
no_section_but_three shape variables (a ∷ b ∷ c ∷ []) other = absurd (other refl)
no_section_but_three shape variables _ other = refl

pub no_len_but_three : (shape : Arrays) (variables : Bindings) (vs : List Value) → length vs ≢ 3
    → (section shape variables (array (items_view vs))).len ≡ 0
no_len_but_three shape variables (a ∷ b ∷ c ∷ []) other = absurd (other refl)
no_len_but_three shape variables _ other = refl

pub no_value_but_three : (shape : Arrays) (variables : Bindings) (vs : List Value) → length vs ≢ 3
    → value_whys shape variables (array (items_view vs)) ≡ Form (array (items_view vs)) wanted.Value ∷ []
unfolding value_whys
no_value_but_three shape variables (a ∷ b ∷ c ∷ []) other = absurd (other refl)
no_value_but_three shape variables _ other = refl

pub zero_but_three : (shape : Arrays) (variables : Bindings) (vs : List Value) → length vs ≢ 3
    → value shape variables (array (items_view vs)) ≡ Literal 0
unfolding value
zero_but_three shape variables (a ∷ b ∷ c ∷ []) other = absurd (other refl)
zero_but_three shape variables _ other = refl

pub no_value : (shape : Arrays) (variables : Bindings) (v : Value) → ((n : Number) → v ≢ JsonNumber n) → ((s : String Global) → v ≢ JsonString s)
    → ((w : Vec Value Global) → v ≢ JsonArray w) → value_whys shape variables (view v) ≡ Form (view v) wanted.Value ∷ []
unfolding value_whys
no_value shape variables v a b c = search (rules, the_lemmas)

pub zero_value : (shape : Arrays) (variables : Bindings) (v : Value) → ((n : Number) → v ≢ JsonNumber n) → ((s : String Global) → v ≢ JsonString s)
    → ((w : Vec Value Global) → v ≢ JsonArray w) → value shape variables (view v) ≡ Literal 0
unfolding value
zero_value shape variables v a b c = search (rules, the_lemmas)

-- ---- clauses

pub no_wait_clause_but_two : (shape : Arrays) (variables : Bindings) (vs : List Value) → length vs ≢ 2
    → wait_clause_whys shape variables (array (items_view vs)) ≡ Form (array (items_view vs)) wanted.WaitClause ∷ []
no_wait_clause_but_two shape variables (a ∷ b ∷ []) other = absurd (other refl)
no_wait_clause_but_two shape variables _ other = refl
