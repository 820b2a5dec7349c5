-- What a list is read as, where a size is wanted.
use Rattle.std.proofs.Common.{◌≡◌, ◌+◌, max, List, [], ◌∷◌, length, get_or, Err, refl, sym, arith}
use Rattle.std.specs.Prelude.{◌≢◌}
use Rattle.serde_json.specs.Data.{array}
use Rattle.serde_json.specs.View.{view, items_view}
use Rattle.serde_json.specs.declared.value.Value.{Value}
use Rattle.ot_program.specs.declared.fault.Refusal.TheVariants.{Form}
use Rattle.ot_program.specs.Meanings.{Bindings}
use Rattle.ot_program.specs.Limits.{size_depth}
use Rattle.ot_program.specs.walk.Sizes.{size_of}

pub no_size_but_three : (variables : Bindings) (vs : List Value) → length vs ≢ 3
    → size_of variables (array (items_view vs)) ≡ Err Form
unfolding size_of
no_size_but_three variables (a ∷ b ∷ c ∷ []) other = absurd (other refl)
no_size_but_three variables _ other = refl

pub depth_but_three : (vs : List Value) → length vs ≢ 3 → size_depth (array (items_view vs)) ≡ 1
unfolding size_depth
depth_but_three (a ∷ b ∷ c ∷ []) other = absurd (other refl)
depth_but_three _ other = refl

pub size_depth-three : (vs : List Value) (a b : Value) → length vs ≡ 3 → a ≡ get_or vs 1 a → b ≡ get_or vs 2 b
    → size_depth (array (items_view vs)) ≡ 1 + max (size_depth (view a)) (size_depth (view b))
unfolding size_depth
size_depth-three (x ∷ y ∷ z ∷ []) a b three q r = rw (sym q, sym r) refl
size_depth-three _ a b three q r = absurd (omega arith)
