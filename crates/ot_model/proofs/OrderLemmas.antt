-- Uses in order: each comes before all later ones, so no two are of one cell.
use Rattle.std.proofs.Common.{◌≡◌, ◌≢◌, zero, suc, List, [], ◌∷◌, ap, ◌∙◌, inl, inr, arith, true}
use Rattle.std.proofs.lemmas.Bool.{cases_lt}
use Rattle.std.proofs.lemmas.Bool.Decides.{nat_tests}
use Rattle.std.proofs.lemmas.List.Elements.{All-nil, All-cons, All-weaker}
use Rattle.std.specs.List.{All, AllPairs}
use Rattle.ot_model.specs.Cells.{is_before, Precedes, AreInOrder}
use Rattle.ot_model.specs.declared.expr.Cell.{Cell}
use Rattle.ot_model.specs.declared.stmt.Use.{Use}

pub precedes_trans : (a b c : Cell) → Precedes a b → Precedes b c → Precedes a c
precedes_trans a b c (inl p) (inl q) = inl (omega arith)
precedes_trans a b c (inl p) (inr q) = inl (omega arith)
precedes_trans a b c (inr p) (inl q) = inl (omega arith)
precedes_trans a b c (inr p) (inr q) = inr (p.0 ∙ q.0, omega arith)

pub precedes_apart : (a b : Cell) → Precedes a b → a ≢ b
precedes_apart a b (inl p) same = let e : a.array ≡ b.array = ap (λ c. c.array) same in omega arith
precedes_apart a b (inr p) same = let e : a.index ≡ b.index = ap (λ c. c.index) same in omega arith

-- the test says which of two cells precedes
pub before_from_precedes : (a b : Cell) → Precedes a b → is_before a b ≡ true
before_from_precedes a b (inl p) = grind (arith, nat_tests)
before_from_precedes a b (inr p) = let array : a.array ≡ b.array = p.0 in let index = p.1 in grind (arith, nat_tests)

pub precedes_from_before : (a b : Cell) → is_before a b ≡ true → Precedes a b
precedes_from_before a b test =
    elim (cases_lt a.array b.array) [
      | inl less ↦ inl less
      | inr rest ↦ inr (grind (arith, nat_tests), grind (arith, nat_tests))
    ]

precedes_all : (u : Use) (us : List Use) → AreInOrder (u ∷ us) → All (λ v. Precedes u.cell v.cell) us
precedes_all u [] order = All-nil (λ v. Precedes u.cell v.cell)
precedes_all u (v ∷ us) order =
    let later : All (λ w. Precedes v.cell w.cell) us = precedes_all v us order.1 in
    All-cons (λ w. Precedes u.cell w.cell) v us order.0
    (All-weaker (λ w. Precedes v.cell w.cell) (λ w. Precedes u.cell w.cell) (λ w. precedes_trans u.cell v.cell w.cell order.0) us later)

pub rest_in_order : (u : Use) (us : List Use) → AreInOrder (u ∷ us) → AreInOrder us
rest_in_order u [] order = tt
rest_in_order u (v ∷ us) order = order.1

-- each cell precedes all later ones
pub each_precedes : (us : List Use) → AreInOrder us → AllPairs (λ u v. Precedes u.cell v.cell) us
each_precedes [] order i j d before within = absurd (omega arith)
each_precedes (u ∷ us) order zero zero d before within = absurd (omega arith)
each_precedes (u ∷ us) order zero (suc j) d before within = precedes_all u us order j d (omega arith)
each_precedes (u ∷ us) order (suc i) zero d before within = absurd (omega arith)
each_precedes (u ∷ us) order (suc i) (suc j) d before within = each_precedes us (rest_in_order u us order) i j d (omega arith) (omega arith)
