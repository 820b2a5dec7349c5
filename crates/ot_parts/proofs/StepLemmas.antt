-- Steps that are written one behind the other.
use Rattle.std.proofs.Common.{◌≡◌, ◌++◌, ◌<◌, ◌≤◌, ◌+◌, ℕ, List, length, get_or, drop, refl, sym, ap, ◌∙◌, append_assoc, append-nil}
use Rattle.std.proofs.lemmas.List.{drop_all}
use Rattle.ot_model.specs.Tree.{Body, Next}
use Rattle.ot_parts.specs.Assigns.{assign_of, assigns_of}
use Rattle.ot_parts.specs.Steps.{Deed, assign_deeds, deeds_of}
use Rattle.ot_parts.specs.declared.assign.Assign.{Assign}
use Rattle.ot_parts.specs.declared.assign.Assign.TheVariants as v
use Rattle.ot_parts.proofs.ByteLemmas.{split}

deeds-first : (x : Assign) (rest : Body) → assign_deeds (assign_of x) ++ deeds_of rest ≡ deeds_of (Next (assign_of x) rest)
deeds-first (v.Set c e) rest = refl
deeds-first (v.Fold o c e) rest = refl

-- the deeds of one more are written
pub written : (xs : List Assign) (old new : List Deed) (i : ℕ) (x : Assign) → i < length xs → x ≡ get_or xs i x → new ≡ old ++ assign_deeds (assign_of x)
    → new ++ deeds_of (assigns_of (drop (i + 1) xs)) ≡ old ++ deeds_of (assigns_of (drop i xs))
written xs old new i x within is put =
    let rest = assigns_of (drop (i + 1) xs) in
    ap (λ w. w ++ deeds_of rest) put ∙ append_assoc old (assign_deeds (assign_of x)) (deeds_of rest)
    ∙ ap (λ d. old ++ d) (deeds-first x rest) ∙ ap (λ b. old ++ deeds_of b) (sym (split xs i x within is))

-- all are written
pub ended : (xs : List Assign) (old : List Deed) (i : ℕ) → length xs ≤ i → old ≡ old ++ deeds_of (assigns_of (drop i xs))
ended xs old i past = sym (append-nil old) ∙ ap (λ l. old ++ deeds_of (assigns_of l)) (sym (drop_all i xs past))
