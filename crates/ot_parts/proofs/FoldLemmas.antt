-- The test whether two operations are one.
use Rattle.std.proofs.Common.{◌≡◌, Bool, true, false, true≢false, sym, ◌∙◌, refl}
use Rattle.ot_model.specs.Cells.{same_fold}
use Rattle.ot_model.specs.declared.fold.Fold.{Fold}
use Rattle.ot_model.proofs.EqualLemmas.{fold-decides}

pub same_self : (f : Fold) → same_fold f f ≡ true
same_self f = (fold-decides f f).1 refl

pub same_other : (f g : Fold) → same_fold f g ≡ same_fold g f
same_other f g = by (same_fold f g) (same_fold g f) refl refl
  where
    by : (a b : Bool) → same_fold f g ≡ a → same_fold g f ≡ b → a ≡ b
    by true true one two = refl
    by true false one two = absurd (true≢false (sym ((fold-decides g f).1 (sym ((fold-decides f g).0 one))) ∙ two))
    by false true one two = absurd (true≢false (sym ((fold-decides f g).1 (sym ((fold-decides g f).0 two))) ∙ one))
    by false false one two = refl
