-- Requests and programs by their length.
use Rattle.std.proofs.Common.{◌≡◌, ◌<◌, ◌≤◌, List, [], ◌∷◌, length, get_or, Some, None, refl, sym, arith}
use Rattle.std.specs.Prelude.{option_map}
use Rattle.serde_json.specs.Data.{array}
use Rattle.serde_json.specs.View.{view, items_view}
use Rattle.serde_json.specs.declared.value.Value.{Value}
use Rattle.ot_program.specs.Meanings.{profile_of}
use Rattle.ot_program.specs.Requested.{requested_program, form, program_form}

pub no_request_short : (vs : List Value) → length vs < 2 → requested_program (array (items_view vs)) ≡ None
no_request_short (a ∷ b ∷ vs) short = absurd (omega arith)
no_request_short _ short = refl

pub no_request_long : (vs : List Value) → 3 ≤ length vs → requested_program (array (items_view vs)) ≡ None
no_request_long (a ∷ b ∷ []) long = absurd (omega arith)
no_request_long _ long = refl

pub request_of_two : (vs : List Value) (d : Value) → 2 ≤ length vs → length vs < 3 → d ≡ get_or vs 1 d
    → requested_program (array (items_view vs)) ≡ Some (view d)
request_of_two (x ∷ y ∷ []) d least below q = rw (sym q) refl
request_of_two _ d least below q = absurd (omega arith)

pub ruleset requests = (no_request_short, no_request_long, request_of_two)

pub no_form_short : (vs : List Value) → length vs < 3 → program_form (array (items_view vs)) ≡ None
no_form_short (a ∷ b ∷ c ∷ vs) short = absurd (omega arith)
no_form_short _ short = refl

pub no_form_long : (vs : List Value) → 4 ≤ length vs → program_form (array (items_view vs)) ≡ None
no_form_long (a ∷ b ∷ c ∷ []) long = absurd (omega arith)
no_form_long _ long = refl

pub form_of_three : (vs : List Value) (t a b : Value) → 3 ≤ length vs → length vs < 4 → t ≡ get_or vs 0 t → a ≡ get_or vs 1 a → b ≡ get_or vs 2 b
    → program_form (array (items_view vs)) ≡ option_map (form (view a) (view b)) (profile_of (view t))
form_of_three (x ∷ y ∷ z ∷ []) t a b least below p q r = rw (sym p, sym q, sym r) refl
form_of_three _ t a b least below p q r = absurd (omega arith)

pub ruleset forms = (no_form_short, no_form_long, form_of_three)
