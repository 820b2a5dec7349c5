-- What `==` says of cells, and of uses.
use Rattle.std.proofs.lemmas.Bool.{eqb-true}
use Rattle.std.proofs.Common.{rules, ℕ, zero, suc, sym, true≢false, ◌≡◌, ◌&&◌, ◌∙◌, Bool, true, Decides, refl, ap, subst, arith}
use Rattle.std.proofs.lemmas.Bool.Decides.{nat_tests}
use Rattle.ot_model.proofs.CellsLemmas.{same_cell as one_cell}
use Rattle.ot_model.specs.Cells.{same_cell, number_of, same_fold, same_mode}
use denote.Enum.Bare.{same_true, sameb}
use Rattle.ot_model.specs.contracts.fold.Fold.{the_type}
use Rattle.ot_model.specs.contracts.stmt.ModePartialEq.TheImpl.{eq-value}
use Rattle.ot_model.specs.declared.fold.Fold.{Fold}
use Rattle.ot_model.specs.declared.fold.Fold.TheVariants.{Plus, Times, And, Or, Xor, Min, Max}
use Rattle.ot_model.specs.declared.expr.Cell.{Cell}
use Rattle.ot_model.specs.declared.stmt.Mode.{Mode}
use Rattle.ot_model.specs.declared.stmt.Mode.TheVariants.{Reads, Writes, Folds}
use Rattle.ot_model.specs.declared.stmt.Use.{Use}

same_itself : (c : Cell) → same_cell c c ≡ true
same_itself c = grind (arith, nat_tests)

-- two cells are equal where the test says that they are one
pub cell-decides : (a b : Cell) → Decides (same_cell a b) (a ≡ b)
cell-decides a b =
    ((λ same. one_cell a b (grind (arith, nat_tests)) (grind (arith, nat_tests))), λ is. subst (λ (c : Cell). same_cell a c ≡ true) is (same_itself a))

fold_itself : (f : Fold) → same_fold f f ≡ true
fold_itself f = grind (arith, nat_tests)

by_number : ℕ → Fold
by_number zero = Plus
by_number (suc zero) = Times
by_number (suc (suc zero)) = And
by_number (suc (suc (suc zero))) = Or
by_number (suc (suc (suc (suc zero)))) = Xor
by_number (suc (suc (suc (suc (suc zero))))) = Min
by_number (suc (suc (suc (suc (suc (suc n)))))) = Max

back : (f : Fold) → by_number (number_of f) ≡ f
unfolding by_number
back Plus = refl
back Times = refl
back And = refl
back Or = refl
back Xor = refl
back Min = refl
back Max = refl

one_fold : (f g : Fold) → same_fold f g ≡ true → f ≡ g
one_fold f g h = sym (back f) ∙ ap by_number (eqb-true (number_of f) (number_of g) h) ∙ back g

pub fold-decides : (f g : Fold) → Decides (same_fold f g) (f ≡ g)
fold-decides f g = (one_fold f g, λ is. subst (λ (h : Fold). same_fold f h ≡ true) is (fold_itself f))

mode_itself : (m : Mode) → same_mode m m ≡ true
mode_itself Reads = refl
mode_itself Writes = refl
mode_itself (Folds f) = fold_itself f

one_mode : (m n : Mode) → same_mode m n ≡ true → m ≡ n
one_mode Reads Reads h = refl
one_mode Writes Writes h = refl
one_mode (Folds f) (Folds g) h = ap Folds (one_fold f g h)
one_mode Reads Writes h = absurd (true≢false (sym h))
one_mode Reads (Folds g) h = absurd (true≢false (sym h))
one_mode Writes Reads h = absurd (true≢false (sym h))
one_mode Writes (Folds g) h = absurd (true≢false (sym h))
one_mode (Folds f) Reads h = absurd (true≢false (sym h))
one_mode (Folds f) Writes h = absurd (true≢false (sym h))

pub mode-decides : (m n : Mode) → Decides (same_mode m n) (m ≡ n)
mode-decides m n = (one_mode m n, λ is. subst (λ (k : Mode). same_mode m k ≡ true) is (mode_itself m))

-- what the derived `==` says of two modes
abbrev equal_mode : Mode → Mode → Bool
equal_mode m n = (eq-value).it m n

equal_fold_itself : (f : Fold) → sameb the_type f f ≡ true
equal_fold_itself Plus = refl
equal_fold_itself Times = refl
equal_fold_itself And = refl
equal_fold_itself Or = refl
equal_fold_itself Xor = refl
equal_fold_itself Min = refl
equal_fold_itself Max = refl

equal_itself : (m : Mode) → equal_mode m m ≡ true
equal_itself Reads = refl
equal_itself Writes = refl
equal_itself (Folds f) = equal_fold_itself f

equal_one : (m n : Mode) → equal_mode m n ≡ true → m ≡ n
equal_one Reads Reads h = refl
equal_one Writes Writes h = refl
equal_one (Folds f) (Folds g) h = ap Folds (same_true the_type (search rules) f g h)
equal_one Reads Writes h = absurd (true≢false (sym h))
equal_one Reads (Folds g) h = absurd (true≢false (sym h))
equal_one Writes Reads h = absurd (true≢false (sym h))
equal_one Writes (Folds g) h = absurd (true≢false (sym h))
equal_one (Folds f) Reads h = absurd (true≢false (sym h))
equal_one (Folds f) Writes h = absurd (true≢false (sym h))

-- what `==` says of two uses
abbrev same_use : Use → Use → Bool
same_use u v = same_cell u.cell v.cell && equal_mode u.mode v.mode

use_itself : (u : Use) → same_use u u ≡ true
use_itself u =
    let cell : same_cell u.cell u.cell ≡ true = same_itself u.cell in
    let mode : equal_mode u.mode u.mode ≡ true = equal_itself u.mode in
    ap (λ b. b && equal_mode u.mode u.mode) cell ∙ mode

one_use : (u v : Use) → same_use u v ≡ true → u ≡ v
one_use u v same =
    let cell : u.cell ≡ v.cell = one_cell u.cell v.cell (grind (arith, nat_tests)) (grind (arith, nat_tests)) in
    let modes : equal_mode u.mode v.mode ≡ true = grind (arith, nat_tests) in
    let mode : u.mode ≡ v.mode = equal_one u.mode v.mode modes in
    let make : Cell → Mode → Use = λ c m. record { cell = c; mode = m } in
    ap (λ c. make c u.mode) cell ∙ ap (make v.cell) mode

pub use-decides : (u v : Use) → Decides (same_use u v) (u ≡ v)
use-decides u v = (one_use u v, λ is. subst (λ (w : Use). same_use u w ≡ true) is (use_itself u))
