-- The test of a dependence is what it tests.
use Rattle.std.proofs.Common.{◌≡◌, ◌↔◌, ◌&&◌, List, Bool, true, false, IsTrue, refl, sym, ap, arith}
use Rattle.std.specs.List.{Any, list_any}
use Rattle.std.proofs.lemmas.Bool.Decides.{nat_tests}
use Rattle.std.proofs.lemmas.List.Folds.{Any-from_list_any, list_any-from_Any}
use Rattle.ot_check.proofs.Cited.{and_left, and_right, and_true}
use Rattle.ot_model.proofs.CellsLemmas as cells
use Rattle.ot_model.specs.Cells.{same_cell, DependsOn, depends_on, one_writes}
use Rattle.ot_model.specs.declared.expr.Cell.{Cell}
use Rattle.ot_model.specs.declared.stmt.Use.{Use}

-- a test of some element finds one that passes, and one that passes is found
any_found : {A : Type 0} (P : A → Type 0) (p : A → Bool) → ((x : A) → p x ≡ true → P x) → (xs : List A) → list_any p xs ≡ true → Any P xs
any_found P p passes xs passed = let found = Any-from_list_any p xs passed in (found.0, found.1, found.2, found.3, passes found.1 found.4)

any_tested : {A : Type 0} (P : A → Type 0) (p : A → Bool) → ((x : A) → P x → p x ≡ true) → (xs : List A) → Any P xs → list_any p xs ≡ true
any_tested P p passes xs (k, x, within, is, holds) = list_any-from_Any p xs (k, x, within, is, passes x holds)

same_cell-is : (c d : Cell) → same_cell c d ≡ true → c ≡ d
same_cell-is c d same = cells.same_cell c d (grind (arith, nat_tests)) (grind (arith, nat_tests))

same_cell-of : (c d : Cell) → c ≡ d → same_cell c d ≡ true
same_cell-of c d is = let array : c.array ≡ d.array = ap (λ x. x.array) is in let index : c.index ≡ d.index = ap (λ x. x.index) is in grind (arith, nat_tests)

abbrev Shares : Use → Use → Type 0
Shares u v = (u.cell ≡ v.cell) × IsTrue (one_writes u.mode v.mode)

abbrev shares : Use → Use → Bool
shares u v = same_cell u.cell v.cell && one_writes u.mode v.mode

found : (earlier later : List Use) → depends_on earlier later ≡ true → DependsOn earlier later
found earlier later =
    any_found (λ u. Any (Shares u) later) (λ u. list_any (shares u) later)
    (λ u. any_found (Shares u) (shares u)
    (λ v passed. (
      same_cell-is u.cell v.cell (and_left (same_cell u.cell v.cell) (one_writes u.mode v.mode) passed),
      and_right (same_cell u.cell v.cell) (one_writes u.mode v.mode) passed,
    )) later) earlier

tested : (earlier later : List Use) → DependsOn earlier later → depends_on earlier later ≡ true
tested earlier later =
    any_tested (λ u. Any (Shares u) later) (λ u. list_any (shares u) later)
    (λ u. any_tested (Shares u) (shares u)
    (λ v here. and_true (same_cell u.cell v.cell) (one_writes u.mode v.mode) (same_cell-of u.cell v.cell here.0) here.1) later) earlier

same_answer : (x y : Bool) → (x ≡ true → y ≡ true) → (y ≡ true → x ≡ true) → x ≡ y
same_answer true y f g = sym (f refl)
same_answer false true f g = g refl
same_answer false false f g = refl

pub depends_on-is : (b : Bool) (earlier later : List Use) → IsTrue b ↔ DependsOn earlier later → b ≡ depends_on earlier later
depends_on-is b earlier later told =
    same_answer b (depends_on earlier later) (λ passed. tested earlier later (told.0 passed)) (λ passed. told.1 (found earlier later passed))
