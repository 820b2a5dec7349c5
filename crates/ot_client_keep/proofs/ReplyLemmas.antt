-- Lists of other lengths tell nothing.
use Rattle.std.proofs.Common.{◌≡◌, ◌≢◌, List, [], ◌∷◌, length, refl}
use Rattle.std.specs.Prelude.{None}
use Rattle.serde_json.specs.View.{items_view}
use Rattle.serde_json.specs.declared.value.Value.{Value}
use Rattle.ot_client_keep.specs.Files.{list_in}

pub no_reply : (vs : List Value) → length vs ≢ 2 → length vs ≢ 3 → list_in (items_view vs) ≡ None
no_reply [] two three = refl
no_reply (a ∷ []) two three = refl
no_reply (a ∷ b ∷ []) two three = absurd (two refl)
no_reply (a ∷ b ∷ c ∷ []) two three = absurd (three refl)
no_reply (a ∷ b ∷ c ∷ d ∷ vs) two three = refl
