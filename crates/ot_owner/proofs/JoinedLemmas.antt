-- Lent cells one after another.
use Rattle.std.proofs.Common.{◌≡◌, ◌≢◌, ℕ, ◌<◌, List, [], ◌∷◌, ◌++◌, length, get_or, take, sym, ap, ◌∙◌, arith, length-append}
use Rattle.std.proofs.lemmas.Grind.{common_steps}
use Rattle.std.proofs.lemmas.List.{get_or-take, get_or_read, get_or_append_left}
use Rattle.std.specs.List.{All}
use Rattle.ot_model.specs.Cells.{AreInOrder}
use Rattle.ot_model.specs.declared.expr.Cell.{Cell}
use Rattle.ot_owner.specs.declared.lent.LentCell.{LentCell}
use Rattle.ot_owner.specs.Lending.{uses_of, IsLent}
use Rattle.ot_model.proofs.OrderLemmas.{precedes_apart}
use Rattle.ot_owner.proofs.OrderLemmas.{each_precedes}

-- what is lent before a place is of other cells
pub others_before : (lent : List LentCell) (k : ℕ) (x : LentCell) → AreInOrder (uses_of lent) → k < length lent → x ≡ get_or lent k x → All (λ l. l.cell ≢ x.cell) (take k lent)
others_before lent k x order within is i d below =
    let early : i < k = grind (arith, common_steps) in
    let one : get_or (take k lent) i d ≡ get_or lent i d = get_or-take k lent i d early in
    let two : x ≡ get_or lent k d = get_or_read lent k x within is d in
    let apart : (get_or lent i d).cell ≢ (get_or lent k d).cell = precedes_apart (get_or lent i d).cell (get_or lent k d).cell (each_precedes lent order i k d early within) in
    λ same. apart (ap (λ l. l.cell) (sym one) ∙ same ∙ ap (λ l. l.cell) two)

-- of other cells throughout: not lent
pub not_lent : (lent : List LentCell) (cell : Cell) → All (λ l. l.cell ≢ cell) lent → ¬ IsLent lent cell
not_lent lent cell others (k, l, within, is, same) = others k l within (ap (λ x. x.cell) is ∙ same)

pub lent_push : (lent : List LentCell) (x : LentCell) (cell : Cell) → IsLent lent cell → IsLent (lent ++ x ∷ []) cell
lent_push lent x cell (k, l, within, is, same) =
    (k, l, omega (arith, length-append lent (x ∷ [])), get_or_append_left lent (x ∷ []) l k within ∙ is, same)
