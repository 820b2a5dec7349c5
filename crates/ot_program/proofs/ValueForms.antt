-- What a list is read as, where a value is wanted.
use Rattle.std.proofs.Common.{◌≡◌, true, false, List, [], ◌∷◌, length, get_or, Some, None, Err, codes, refl, sym, arith}
use Rattle.std.specs.Prelude.{◌≢◌}
use Rattle.serde_json.specs.Data.{array}
use Rattle.serde_json.specs.View.{view, items_view}
use Rattle.serde_json.specs.declared.value.Value.{Value}
use Rattle.ot_model.specs.Programs.{Arrays}
use Rattle.ot_model.specs.declared.expr.Op.{Op}
use Rattle.ot_program.specs.declared.fault.Refusal.TheVariants.{Form}
use Rattle.ot_program.specs.Meanings.{is_word, Bindings, op_of}
use Rattle.ot_program.specs.walk.Parts.{cell_at, section_of, cell_value, operation, pick_of, value_of}

pub no_value_but_three : (shape : Arrays) (variables : Bindings) (vs : List Value) → length vs ≢ 3
    → value_of shape variables (array (items_view vs)) ≡ Err Form
unfolding value_of
no_value_but_three shape variables (a ∷ b ∷ c ∷ []) other = absurd (other refl)
no_value_but_three shape variables _ other = refl

pub value_of-operation : (shape : Arrays) (variables : Bindings) (vs : List Value) (t a b : Value) (op : Op) → length vs ≡ 3
    → t ≡ get_or vs 0 t → a ≡ get_or vs 1 a → b ≡ get_or vs 2 b
    → is_word (view t) (codes "c") ≡ false → is_word (view t) (codes "pick") ≡ false → op_of (view t) ≡ Some op
    → value_of shape variables (array (items_view vs)) ≡ operation (Some op) (value_of shape variables (view a)) (value_of shape variables (view b))
unfolding value_of
value_of-operation shape variables (x ∷ y ∷ z ∷ []) t a b op three p q r other no_pick is = rw (sym p, sym q, sym r, other, no_pick, is) refl
value_of-operation shape variables _ t a b op three p q r other no_pick is = absurd (omega arith)

pub value_of-pick : (shape : Arrays) (variables : Bindings) (vs : List Value) (t a b : Value) → length vs ≡ 3
    → t ≡ get_or vs 0 t → a ≡ get_or vs 1 a → b ≡ get_or vs 2 b
    → is_word (view t) (codes "c") ≡ false → is_word (view t) (codes "pick") ≡ true
    → value_of shape variables (array (items_view vs)) ≡ pick_of (section_of shape variables (view a)) (value_of shape variables (view b))
unfolding value_of
value_of-pick shape variables (x ∷ y ∷ z ∷ []) t a b three p q r other is = rw (sym p, sym q, sym r, other, is) refl
value_of-pick shape variables _ t a b three p q r other is = absurd (omega arith)

pub value_of-cell : (shape : Arrays) (variables : Bindings) (vs : List Value) (t a b : Value) → length vs ≡ 3
    → t ≡ get_or vs 0 t → a ≡ get_or vs 1 a → b ≡ get_or vs 2 b → is_word (view t) (codes "c") ≡ true
    → value_of shape variables (array (items_view vs)) ≡ cell_value (cell_at shape variables (view a) (view b))
unfolding value_of
value_of-cell shape variables (x ∷ y ∷ z ∷ []) t a b three p q r is = rw (sym p, sym q, sym r, is) refl
value_of-cell shape variables _ t a b three p q r is = absurd (omega arith)

pub value_of-no_op : (shape : Arrays) (variables : Bindings) (vs : List Value) (t : Value) → length vs ≡ 3
    → t ≡ get_or vs 0 t → is_word (view t) (codes "c") ≡ false → is_word (view t) (codes "pick") ≡ false → op_of (view t) ≡ None
    → value_of shape variables (array (items_view vs)) ≡ Err Form
unfolding value_of
value_of-no_op shape variables (x ∷ y ∷ z ∷ []) t three p other no_pick is = rw (sym p, other, no_pick, is) refl
value_of-no_op shape variables _ t three p other no_pick is = absurd (omega arith)
