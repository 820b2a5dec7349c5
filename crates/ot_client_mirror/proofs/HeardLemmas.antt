-- Lists of other lengths tell nothing.
use Rattle.std.proofs.Common.{◌≡◌, ◌⊎◌, ◌<◌, List, [], ◌∷◌, length, refl, arith, inl, inr}
use Rattle.std.specs.Prelude.{None}
use Rattle.serde_json.specs.View.{items_view}
use Rattle.serde_json.specs.declared.value.Value.{Value}
use Rattle.ot_client_mirror.specs.Mirrors.{told_in_list}

pub no_reply : (vs : List Value) → (length vs < 2) ⊎ (4 < length vs) → told_in_list (items_view vs) ≡ None
no_reply [] other = refl
no_reply (a ∷ []) other = refl
no_reply (a ∷ b ∷ []) (inl few) = absurd (omega (arith, few))
no_reply (a ∷ b ∷ []) (inr many) = absurd (omega (arith, many))
no_reply (a ∷ b ∷ c ∷ []) (inl few) = absurd (omega (arith, few))
no_reply (a ∷ b ∷ c ∷ []) (inr many) = absurd (omega (arith, many))
no_reply (a ∷ b ∷ c ∷ d ∷ []) (inl few) = absurd (omega (arith, few))
no_reply (a ∷ b ∷ c ∷ d ∷ []) (inr many) = absurd (omega (arith, many))
no_reply (a ∷ b ∷ c ∷ d ∷ e ∷ vs) other = refl
