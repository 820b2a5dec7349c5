-- What is told of a clause, by how many items it has.
use Rattle.std.proofs.Common.{◌≡◌, ◌≢◌, true, false, List, [], ◌∷◌, length, refl, arith}
use Rattle.serde_json.specs.Data.{Data, array, no_items, item}
use Rattle.serde_json.specs.View.{items_view}
use Rattle.serde_json.specs.declared.value.Value.{Value}
use Rattle.ot_model.specs.Programs.{Arrays}
use Rattle.ot_program.specs.Meanings.{Bindings, size, section, clause, wait_clause, is_two}
use Rattle.ot_program.specs.declared.profile.Profile.{Profile}
use Rattle.ot_why_fault.specs.Whys.{Form, clause_whys}
use Rattle.ot_why_fault.specs.declared.why.Wanted.TheVariants as wanted

-- which section a clause of three items has depends on the profile
pub section-three : (shape : Arrays) (profile : Profile) (variables : Bindings) (t op a : Data) → is_two profile ≡ true
    → (clause shape profile variables (array (item t (item op (item a no_items))))).section ≡ section shape variables a
section-three shape profile variables t op a two = grind arith

pub len-three : (shape : Arrays) (profile : Profile) (variables : Bindings) (t op a : Data) → is_two profile ≡ false
    → (clause shape profile variables (array (item t (item op (item a no_items))))).section.len ≡ size variables a
len-three shape profile variables t op a one = grind arith

pub no_clause : (shape : Arrays) (profile : Profile) (variables : Bindings) (xs : List Value) → length xs ≢ 2 → length xs ≢ 3
    → clause_whys shape profile variables (array (items_view xs)) ≡ Form (array (items_view xs)) wanted.Clause ∷ []
no_clause shape profile variables (a ∷ b ∷ []) other more = absurd (other refl)
no_clause shape profile variables (a ∷ b ∷ c ∷ []) other more = absurd (more refl)
no_clause shape profile variables _ other more = refl

pub no_clause_len : (shape : Arrays) (profile : Profile) (variables : Bindings) (xs : List Value) → length xs ≢ 2 → length xs ≢ 3
    → 0 ≡ (clause shape profile variables (array (items_view xs))).section.len
no_clause_len shape profile variables [] other more = refl
no_clause_len shape profile variables (a ∷ []) other more = refl
no_clause_len shape profile variables (a ∷ b ∷ []) other more = absurd (other refl)
no_clause_len shape profile variables (a ∷ b ∷ c ∷ []) other more = absurd (more refl)
no_clause_len shape profile variables (a ∷ b ∷ c ∷ d ∷ ds) other more = grind arith

pub wait_clause_section-other : (shape : Arrays) (variables : Bindings) (xs : List Value) → length xs ≢ 2
    → (wait_clause shape variables (array (items_view xs))).section ≡ section shape variables (array (items_view xs))
wait_clause_section-other shape variables (a ∷ b ∷ []) other = absurd (other refl)
wait_clause_section-other shape variables _ other = refl
