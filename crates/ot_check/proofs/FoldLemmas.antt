-- What a child declares of folds, where its creation is no offence.
use Rattle.std.proofs.Common.{◌≡◌, Bool, true, false, not, ◌&&◌, ◌||◌, List, [], ◌∷◌, refl, sym, ap, subst, ◌∙◌, ◌⊎◌, inl, inr, true≢false}
use Rattle.std.specs.Prelude.{Some}
use Rattle.std.specs.List.{list_any}
use Rattle.ot_model.specs.Cells.{same_cell}
use Rattle.ot_model.specs.declared.expr.Cell.{Cell}
use Rattle.ot_model.specs.declared.fold.Fold.{Fold as Operation}
use Rattle.ot_model.specs.declared.stmt.Mode.{Mode}
use Rattle.ot_model.specs.declared.stmt.Mode.TheVariants.{Reads, Writes, Folds}
use Rattle.ot_model.specs.declared.stmt.Use.{Use}
use Rattle.ot_model.proofs.EqualLemmas.{fold-decides}
use Rattle.ot_check.specs.Offences.{use_as, Declared, Openings, allows, folds_by, folds_to, misfits, misfits_as, covers}
use Rattle.ot_check.proofs.Bits.{or_true, and_left, and_right, or_false_left, or_false_right}
use Rattle.ot_check.proofs.SameLemmas.{same_is}
use Rattle.ot_check.proofs.OpeningLemmas.{opened-by}

pub both_false : (a b : Bool) → (not a && not b) ≡ false → (a ≡ true) ⊎ (b ≡ true)
both_false true b h = inl refl
both_false false true h = inr refl
both_false false false h = cc

one-folds : (own : Declared) (opened : Openings) (o : Operation) (c d : Cell) (m : Mode) → folds_by o m ≡ true → d ≡ c → misfits_as m own opened d ≡ false
    → (folds_to own o c ≡ true) ⊎ (opened o c ≡ true)
one-folds own opened o c d Reads is at free = cc
one-folds own opened o c d Writes is at free = cc
one-folds own opened o c d (Folds by) is at free =
    subst (λ d. (folds_to own o d ≡ true) ⊎ (opened o d ≡ true)) at
    (subst (λ by. (folds_to own by d ≡ true) ⊎ (opened by d ≡ true)) ((fold-decides by o).0 is) (both_false (folds_to own by d) (opened by d) free))

-- a cell that it folds into is declared by the body as Folds of the same operation, or is of an open group by it
pub fits-folds : (own : Declared) (opened : Openings) (child : List Use) (o : Operation) (c : Cell) → list_any (misfits own opened) child ≡ false
    → folds_to (Some child) o c ≡ true → (folds_to own o c ≡ true) ⊎ (opened o c ≡ true)
fits-folds own opened [] o c fit h = absurd (true≢false (sym h))
fits-folds own opened (d ∷ child) o c fit h =
    elim (or_true (same_cell d.cell c && folds_by o d.mode) (folds_to (Some child) o c) h) [
      | inl here ↦
          one-folds own opened o c d.cell d.mode (and_right (same_cell d.cell c) (folds_by o d.mode) here)
          (same_is d.cell c (and_left (same_cell d.cell c) (folds_by o d.mode) here)) (or_false_left (misfits own opened d) (list_any (misfits own opened) child) fit)
      | inr later ↦ fits-folds own opened child o c (or_false_right (misfits own opened d) (list_any (misfits own opened) child) fit) later
    ]

shut : (opened : Openings) (o : Operation) (c d : Cell) → d ≡ c → opened o c ≡ true → opened o d ≡ true
shut opened o c d at here = ap (opened o) at ∙ here

one-reads : (own : Declared) (opened : Openings) (o : Operation) (c d : Cell) (m : Mode) (later same : Bool) → same_cell d c ≡ same → opened o c ≡ true
    → misfits_as m own opened d ≡ false → later ≡ false → ((same && covers m Reads) || later) ≡ false
one-reads own opened o c d m later false at here free rest = rest
one-reads own opened o c d (Folds by) later true at here free rest = rest
one-reads own opened o c d Reads later true at here free rest = absurd (true≢false (sym (opened-by opened o d (shut opened o c d (same_is d c at) here)) ∙ free))
one-reads own opened o c d Writes later true at here free rest = absurd (true≢false (sym (opened-by opened o d (shut opened o c d (same_is d c at) here)) ∙ free))

-- a cell of an open group it neither reads nor writes
pub fits-reads : (own : Declared) (opened : Openings) (child : List Use) (o : Operation) (c : Cell) → list_any (misfits own opened) child ≡ false
    → opened o c ≡ true → allows (Some child) (use_as Reads c) ≡ false
fits-reads own opened [] o c fit here = refl
fits-reads own opened (d ∷ child) o c fit here =
    one-reads own opened o c d.cell d.mode (allows (Some child) (use_as Reads c)) (same_cell d.cell c) refl here
    (or_false_left (misfits own opened d) (list_any (misfits own opened) child) fit)
    (fits-reads own opened child o c (or_false_right (misfits own opened d) (list_any (misfits own opened) child) fit) here)
