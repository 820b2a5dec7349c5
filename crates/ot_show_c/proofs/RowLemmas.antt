-- Cells of a section one after the other.
use Rattle.std.proofs.Common.{◌≡◌, ℕ, zero, suc, ◌+◌, ◌-◌, ◌<◌, List, ◌++◌, refl, sym, ap, ◌∙◌, append_assoc, arith}
use Rattle.std.specs.Prelude.{codes}
use Rattle.ot_show_print.specs.Shown.{Text}
use Rattle.ot_show_c.specs.Statements.{item, item_row}

row_first : (names : List Text) (w : Text) (a i n : ℕ) → 0 < n → item_row names w a i n ≡ item names w a i ++ item_row names (codes ", ") a (i + 1) (n - 1)
row_first names w a i zero some = absurd (omega (arith, some))
row_first names w a i (suc n) some = let e : suc n - 1 ≡ n = omega arith in rw e refl

-- a text that has grown by the first of the cells that are left
pub row_step : (names : List Text) (w : Text) (a s n p : ℕ) (t u : Text) → p < n → u ≡ t ++ item names w a (s + p)
    → u ++ item_row names (codes ", ") a (s + (p + 1)) (n - (p + 1)) ≡ t ++ item_row names w a (s + p) (n - p)
row_step names w a s n p t u left grown =
    let place : s + (p + 1) ≡ (s + p) + 1 = omega arith in
    let fewer : n - (p + 1) ≡ (n - p) - 1 = omega arith in
    let some : 0 < n - p = omega (arith, left) in
    ap (λ i. u ++ item_row names (codes ", ") a i (n - (p + 1))) place
    ∙ ap (λ k. u ++ item_row names (codes ", ") a ((s + p) + 1) k) fewer
    ∙ ap (λ x. x ++ item_row names (codes ", ") a ((s + p) + 1) ((n - p) - 1)) grown
    ∙ append_assoc t (item names w a (s + p)) (item_row names (codes ", ") a ((s + p) + 1) ((n - p) - 1))
    ∙ ap (λ x. t ++ x) (sym (row_first names w a (s + p) (n - p) some))
