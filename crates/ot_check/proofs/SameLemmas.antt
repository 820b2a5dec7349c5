-- Cells that are one, and cells that are two.
use Rattle.std.proofs.Common.{◌≡◌, ◌≢◌, ℕ, true, false, ◌&&◌, ap, ◌∙◌, ◌⊎◌, inl, inr, arith}
use Rattle.std.specs.Prelude.{◌==◌}
use Rattle.std.proofs.lemmas.Bool.{cases_eq}
use Rattle.std.proofs.lemmas.Bool.Decides.{nat_tests}
use Rattle.ot_model.specs.Cells.{same_cell}
use Rattle.ot_model.specs.declared.expr.Cell.{Cell}
use Rattle.ot_model.proofs.CellsLemmas as model
use Rattle.ot_check.proofs.Bits.{and_left, and_right, and_false}

pub eq_itself : (n : ℕ) → (n == n) ≡ true
eq_itself n = grind (arith, nat_tests)

pub eq_apart : (n m : ℕ) → n ≢ m → (n == m) ≡ false
eq_apart n m apart = grind (arith, nat_tests)

pub same_itself : (c : Cell) → same_cell c c ≡ true
same_itself c = ap (λ b. b && (c.index == c.index)) (eq_itself c.array) ∙ eq_itself c.index

pub same_apart : (c d : Cell) → c ≢ d → same_cell c d ≡ false
same_apart c d apart =
    elim (model.cells_apart c d apart) [
      | inl array ↦ ap (λ b. b && (c.index == d.index)) (eq_apart c.array d.array array)
      | inr both ↦ ap (λ b. (c.array == d.array) && b) (eq_apart c.index d.index both.1) ∙ and_false (c.array == d.array)
    ]

pub same_is : (c d : Cell) → same_cell c d ≡ true → c ≡ d
same_is c d h =
    let a : (c.array == d.array) ≡ true = and_left (c.array == d.array) (c.index == d.index) h in
    let i : (c.index == d.index) ≡ true = and_right (c.array == d.array) (c.index == d.index) h in
    model.same_cell c d (grind (arith, nat_tests)) (grind (arith, nat_tests))

pub cells_equal : (c d : Cell) → (c ≡ d) ⊎ (c ≢ d)
cells_equal c d =
    elim (cases_eq c.array d.array) [
      | inl array ↦ elim (cases_eq c.index d.index) [
        | inl index ↦ inl (model.same_cell c d array index)
        | inr apart ↦ inr (λ e. apart (ap (λ c. c.index) e))
      ]
      | inr apart ↦ inr (λ e. apart (ap (λ c. c.array) e))
    ]
