-- Lists of another length are no cell, no section and no clause; and what a clause is.
use Rattle.std.proofs.Common.{◌≡◌, ◌<◌, ◌≤◌, List, [], ◌∷◌, length, get_or, Err, refl, sym, arith}
use Rattle.serde_json.specs.Data.{array}
use Rattle.serde_json.specs.View.{view, items_view}
use Rattle.serde_json.specs.declared.value.Value.{Value}
use Rattle.ot_model.specs.Programs.{Arrays}
use Rattle.ot_program.specs.declared.fault.Refusal.TheVariants.{Form}
use Rattle.ot_program.specs.declared.profile.Profile.{Profile}
use Rattle.ot_program.specs.declared.profile.Profile.TheVariants.{Two}
use Rattle.ot_program.specs.Meanings.{Bindings, mode_of}
use Rattle.ot_program.specs.walk.Parts.{cell_of, section_of, folded_of, clause_at, clause_of, wait_clause_of}

pub no_cell_short : (shape : Arrays) (variables : Bindings) (vs : List Value) → length vs < 3
    → cell_of shape variables (array (items_view vs)) ≡ Err Form
no_cell_short shape variables (a ∷ b ∷ c ∷ vs) short = absurd (omega arith)
no_cell_short shape variables _ short = refl

pub no_cell_long : (shape : Arrays) (variables : Bindings) (vs : List Value) → 4 ≤ length vs → cell_of shape variables (array (items_view vs)) ≡ Err Form
no_cell_long shape variables (a ∷ b ∷ c ∷ []) long = absurd (omega arith)
no_cell_long shape variables _ long = refl

pub ruleset no_cell = (no_cell_short, no_cell_long)

pub no_section_short : (shape : Arrays) (variables : Bindings) (vs : List Value) → length vs < 3
    → section_of shape variables (array (items_view vs)) ≡ Err Form
no_section_short shape variables (a ∷ b ∷ c ∷ vs) short = absurd (omega arith)
no_section_short shape variables _ short = refl

pub no_section_long : (shape : Arrays) (variables : Bindings) (vs : List Value) → 4 ≤ length vs
    → section_of shape variables (array (items_view vs)) ≡ Err Form
no_section_long shape variables (a ∷ b ∷ c ∷ []) long = absurd (omega arith)
no_section_long shape variables _ long = refl

pub ruleset no_section = (no_section_short, no_section_long)

-- ---- a clause, by what its parts are read as

pub form_clause : (shape : Arrays) (profile : Profile) (variables : Bindings) (vs : List Value) (t a : Value) → 2 ≤ length vs → length vs < 3
    → t ≡ get_or vs 0 t → a ≡ get_or vs 1 a
    → clause_of shape profile variables (array (items_view vs)) ≡ clause_at (mode_of profile (view t)) (section_of shape variables (view a))
form_clause shape profile variables (x ∷ y ∷ []) t a least below p q = rw (sym p, sym q) refl
form_clause shape profile variables _ t a least below p q = absurd (omega arith)

pub form_red : (shape : Arrays) (profile : Profile) (variables : Bindings) (vs : List Value) (t o a : Value) → 3 ≤ length vs → length vs < 4
    → t ≡ get_or vs 0 t → o ≡ get_or vs 1 o → a ≡ get_or vs 2 a
    → clause_of shape profile variables (array (items_view vs)) ≡ clause_at (folded_of profile (view t) (view o)) (section_of shape variables (view a))
form_red shape profile variables (x ∷ y ∷ z ∷ []) t o a least below p q r = rw (sym p, sym q, sym r) refl
form_red shape profile variables _ t o a least below p q r = absurd (omega arith)

pub no_clause_short : (shape : Arrays) (profile : Profile) (variables : Bindings) (vs : List Value) → length vs < 2
    → clause_of shape profile variables (array (items_view vs)) ≡ Err Form
no_clause_short shape profile variables (a ∷ b ∷ vs) short = absurd (omega arith)
no_clause_short shape profile variables _ short = refl

pub no_clause_long : (shape : Arrays) (profile : Profile) (variables : Bindings) (vs : List Value) → 4 ≤ length vs
    → clause_of shape profile variables (array (items_view vs)) ≡ Err Form
no_clause_long shape profile variables (a ∷ b ∷ []) long = absurd (omega arith)
no_clause_long shape profile variables (a ∷ b ∷ c ∷ []) long = absurd (omega arith)
no_clause_long shape profile variables _ long = refl

pub ruleset clause_forms = (form_clause, form_red, no_clause_short, no_clause_long)

-- ---- a clause of a wait

pub form_wait_clause : (shape : Arrays) (variables : Bindings) (vs : List Value) (t a : Value) → 2 ≤ length vs → length vs < 3
    → t ≡ get_or vs 0 t → a ≡ get_or vs 1 a
    → wait_clause_of shape variables (array (items_view vs)) ≡ clause_at (mode_of Two (view t)) (section_of shape variables (view a))
form_wait_clause shape variables (x ∷ y ∷ []) t a least below p q = rw (sym p, sym q) refl
form_wait_clause shape variables _ t a least below p q = absurd (omega arith)

pub no_wait_clause_short : (shape : Arrays) (variables : Bindings) (vs : List Value) → length vs < 2
    → wait_clause_of shape variables (array (items_view vs)) ≡ Err Form
no_wait_clause_short shape variables (a ∷ b ∷ vs) short = absurd (omega arith)
no_wait_clause_short shape variables _ short = refl

pub no_wait_clause_long : (shape : Arrays) (variables : Bindings) (vs : List Value) → 3 ≤ length vs
    → wait_clause_of shape variables (array (items_view vs)) ≡ Err Form
no_wait_clause_long shape variables (a ∷ b ∷ []) long = absurd (omega arith)
no_wait_clause_long shape variables _ long = refl

pub ruleset wait_clause_forms = (form_wait_clause, no_wait_clause_short, no_wait_clause_long)
