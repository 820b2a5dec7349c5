-- Two open groups stay the same two while cells are lent and come back, and what that says of their cells.
use Rattle.std.proofs.Common.{◌≡◌, ◌≢◌, ℕ, zero, suc, ◌<◌, Bool, true, false, true≢false, List, [], ◌∷◌, length, get_or, refl, sym, ap, ◌∙◌, subst, arith, Contains, IsPermutation}
use Rattle.std.specs.Prelude.{◌↔◌, ◌==◌, Option, Some, None, is_some, IsSome, All, Any, replicate, if◌then◌else◌}
use Rattle.ot_model.specs.Cells.{cell_of, lengths, is_fold}
use Rattle.ot_model.specs.Names.{IsInShape}
use Rattle.ot_model.specs.declared.expr.Cell.{Cell}
use Rattle.ot_model.specs.declared.fold.Fold.{Fold as Operation}
use Rattle.ot_model.specs.declared.stmt.Mode.{Mode}
use Rattle.ot_model.specs.declared.stmt.Use.{Use}
use Rattle.ot_model.proofs.EqualLemmas.{cell-decides}
use Rattle.ot_model.proofs.NamesLemmas.{found_from_in}
use Rattle.std.proofs.lemmas.List.{get_or_default}
use Rattle.std.proofs.lemmas.List.Elements.{All-nil, All-cons}
use Rattle.std.proofs.lemmas.List.Quantifiers.{position-Some}
use Rattle.std.proofs.lemmas.List.Sorted.{length_permutation, IsPermutation-cons, IsPermutation-swap, IsPermutation-trans}
use Rattle.ot_owner.proofs.OutLemmas.{permutation_rest}
use Rattle.ot_model.specs.declared.stmt.Mode.TheVariants.{Reads, Folds}
use Rattle.ot_owner.specs.Lending.{use_of, uses_of, MayChange}
use Rattle.ot_owner.specs.Worth.{taken_back, all_back}
use Rattle.ot_owner.specs.Owning.{Loan, IsFreeFor, Summed, is_of, place_in, names, IsNamed, IsSummed, IsSummedBy, folds_in, begun_in, begun_for, folded_in, copies_folded, without}
use Rattle.ot_owner.specs.declared.lent.LentCell.{LentCell}
use Rattle.ot_owner.proofs.NameLemmas.{place-named}
use Rattle.test_book.specs.TwoGroups.{nth, IsFoldOf, IsOver, AreTwo}

-- ---- they stay

over-same : (n : ℕ) (o : Operation) (i : ℕ) (g h : Summed) → h.group ≡ g.group → h.op ≡ g.op → h.uses ≡ g.uses → IsOver n o i g → IsOver n o i h
over-same n o i g h group op uses is = record {
  number = group ∙ is.number;
  op = op ∙ is.op;
  named = ap (λ us. is_some (place_in us (nth i))) uses ∙ is.named;
  only = subst (All (λ u. u.cell ≡ nth i)) (sym uses) is.only;
}

two-folded : (w v : ℕ) (o : Operation) (c : Cell) (gs : List Summed) → AreTwo o gs → AreTwo o (copies_folded w c v gs)
two-folded w v o c [] two = absurd two
two-folded w v o c (g ∷ []) two = absurd two
two-folded w v o c (outer ∷ inner ∷ []) two = by (place_in outer.uses c) (place_in inner.uses c)
  where
    by : (j k : Option ℕ) → AreTwo o (if is_some j then folded_in w v outer j ∷ inner ∷ [] else outer ∷ (if is_some k then folded_in w v inner k ∷ [] else inner ∷ []))
    by (Some j) k = (over-same 1 o 0 outer (folded_in w v outer (Some j)) refl refl refl two.0, two.1)
    by None (Some k) = (two.0, over-same 2 o 1 inner (folded_in w v inner (Some k)) refl refl refl two.1)
    by None None = two
two-folded w v o c (g ∷ h ∷ k ∷ gs) two = absurd two

two-taken : (w : ℕ) (o : Operation) (l : LentCell) (gs : List Summed) → AreTwo o gs → AreTwo o (taken_back w l gs)
two-taken w o l gs two = by (is_fold l.mode)
  where
    by : (b : Bool) → AreTwo o (if b then copies_folded w l.cell l.value gs else gs)
    by true = two-folded w l.value o l.cell gs two
    by false = two

pub two-back : (w : ℕ) (o : Operation) (lent : List LentCell) (gs : List Summed) → AreTwo o gs → AreTwo o (all_back w lent gs)
two-back w o [] gs two = two
two-back w o (l ∷ lent) gs two = two-back w o lent (taken_back w l gs) (two-taken w o l gs two)

pub two-begun : (w : ℕ) (us : List Use) (o : Operation) (gs : List Summed) → AreTwo o gs → AreTwo o (begun_for w us gs)
two-begun w us o [] two = absurd two
two-begun w us o (g ∷ []) two = absurd two
two-begun w us o (outer ∷ inner ∷ []) two = (begun 1 0 outer (folds_in outer.uses us) two.0, begun 2 1 inner (folds_in inner.uses us) two.1)
  where
    begun : (n i : ℕ) (g : Summed) (b : Bool) → IsOver n o i g → IsOver n o i (if b then begun_in w g else g)
    begun n i g true is = over-same n o i g (begun_in w g) refl refl refl is
    begun n i g false is = is
two-begun w us o (g ∷ h ∷ k ∷ gs) two = absurd two

-- ---- they are opened

pub only-one : (x c : Cell) → Contains (x ∷ []) c → c ≡ x
only-one x c (zero, within, is) = sym is
only-one x c (suc k, within, is) = absurd (omega (arith, within))

-- where nothing is out, all is free
pub none-free : (out : List Loan) (uses : List Use) → out ≡ [] → IsFreeFor out uses
none-free out uses none = subst (λ (o : List Loan). IsFreeFor o uses) (sym none) (λ j e inside. absurd (omega (arith, inside)))

-- a group that names another cell alone
pub over-unnamed : (n : ℕ) (o : Operation) (i j : ℕ) (g : Summed) → IsOver n o i g → i ≢ j → ¬ IsSummed (g ∷ []) (nth j)
over-unnamed n o i j g over other (zero, h, within, is, named) = by (place_in g.uses (nth j)) refl (ap (names (nth j)) is ∙ named)
  where
    by : (p : Option ℕ) → place_in g.uses (nth j) ≡ p → is_some p ≡ true → ⊥
    by None at some = true≢false (sym some)
    by (Some p) at some =
        let found = position-Some (is_of (nth j)) g.uses p (record { cell = nth j; mode = Reads }) at in
        let u = get_or g.uses p (record { cell = nth j; mode = Reads }) in
        other (ap (λ (c : Cell). c.index) (sym (over.only p (record { cell = nth j; mode = Reads }) found.0) ∙ (cell-decides u.cell (nth j)).0 found.1))
over-unnamed n o i j g over other (suc k, h, within, is, named) = omega (arith, within)

-- a group in the room for one cell
pub over-opened : (n : ℕ) (o : Operation) (i : ℕ) (room : List Use) → ((c : Cell) → IsNamed room c ↔ Contains (nth i ∷ []) c) → IsOver n o i (let g : Summed = record { group = n; op = o; uses = room; rows = replicate 17 None } in g)
over-opened n o i room named = record {
  number = refl;
  op = refl;
  named = place-named room (nth i) ((named (nth i)).1 (0, omega arith, refl));
  only = λ k d within. only-one (nth i) (get_or room k d).cell ((named (get_or room k d).cell).0 (k, get_or room k d, within, sym (refl_at k d within), refl));
}
  where
    refl_at : (k : ℕ) (d : Use) → k < length room → get_or room k d ≡ get_or room k (get_or room k d)
    refl_at k d within = get_or_default room k d (get_or room k d) within

-- ---- what is known of their cells

pub there : (cells : List (List ℕ)) (i : ℕ) → lengths cells ≡ 3 ∷ [] → i < 3 → IsSome (cell_of cells (nth i))
there cells i long within = found_from_in cells (nth i) (subst (λ lens. IsInShape lens (nth i)) (sym long) (record { len = 3; array = refl; within = within }))

over-there : (cells : List (List ℕ)) (n : ℕ) (o : Operation) (i : ℕ) (g : Summed) → lengths cells ≡ 3 ∷ [] → i < 3 → IsOver n o i g → All (λ u. IsSome (cell_of cells u.cell)) g.uses
over-there cells n o i g long within is k d inside = subst (λ c. IsSome (cell_of cells c)) (sym (is.only k d inside)) (there cells i long within)

pub two-summed : (o : Operation) (i : ℕ) (gs : List Summed) → i < 2 → AreTwo o gs → IsSummedBy gs o (nth i)
two-summed o i [] small two = absurd two
two-summed o i (g ∷ []) small two = absurd two
two-summed o zero (outer ∷ inner ∷ []) small two = (0, outer, omega arith, refl, (two.0.named, two.0.op))
two-summed o (suc zero) (outer ∷ inner ∷ []) small two = (1, inner, omega arith, refl, (two.1.named, two.1.op))
two-summed o (suc (suc i)) (outer ∷ inner ∷ []) small two = absurd (omega (arith, small))
two-summed o i (g ∷ h ∷ k ∷ gs) small two = absurd two

pub two-inner : (o : Operation) (gs : List Summed) → AreTwo o gs → Any (λ g. g.group ≡ 2) gs
two-inner o [] two = absurd two
two-inner o (g ∷ []) two = absurd two
two-inner o (outer ∷ inner ∷ []) two = (1, inner, omega arith, refl, two.1.number)
two-inner o (g ∷ h ∷ k ∷ gs) two = absurd two

pub two-there : (cells : List (List ℕ)) (n : ℕ) (o : Operation) (gs : List Summed) → lengths cells ≡ 3 ∷ [] → AreTwo o gs → All (λ g. g.group ≡ n → All (λ u. IsSome (cell_of cells u.cell)) g.uses) gs
two-there cells n o [] long two = absurd two
two-there cells n o (g ∷ []) long two = absurd two
two-there cells n o (outer ∷ inner ∷ []) long two = each
  where
    each : All (λ g. g.group ≡ n → All (λ u. IsSome (cell_of cells u.cell)) g.uses) (outer ∷ inner ∷ [])
    each zero d within same = over-there cells 1 o 0 outer long (omega arith) two.0
    each (suc zero) d within same = over-there cells 2 o 1 inner long (omega arith) two.1
    each (suc (suc k)) d within same = absurd (omega (arith, within))
two-there cells n o (g ∷ h ∷ k ∷ gs) long two = absurd two

-- ---- the inner one is closed

pub record IsOuter (o : Operation) (gs : List Summed) : Type 0 where
  pub outer : Summed
  pub over : IsOver 1 o 0 outer
  pub alone : gs ≡ outer ∷ []

pub two-closed : (o : Operation) (gs : List Summed) → AreTwo o gs → IsOuter o (without 2 gs)
two-closed o [] two = absurd two
two-closed o (g ∷ []) two = absurd two
two-closed o (outer ∷ inner ∷ []) two = record {
  outer = outer;
  over = two.0;
  alone = ap (λ n. if n == 2 then inner ∷ [] else outer ∷ (if inner.group == 2 then [] else inner ∷ [])) two.0.number
      ∙ ap (λ n. outer ∷ (if n == 2 then [] else inner ∷ [])) two.1.number;
}
two-closed o (g ∷ h ∷ k ∷ gs) two = absurd two

pub outer-open : (o : Operation) (gs : List Summed) → IsOuter o gs → Any (λ g. g.group ≡ 1) gs
outer-open o gs is = subst (Any (λ (g : Summed). g.group ≡ 1)) (sym is.alone) (0, is.outer, omega arith, refl, is.over.number)

pub outer-there : (cells : List (List ℕ)) (n : ℕ) (o : Operation) (gs : List Summed) → lengths cells ≡ 3 ∷ [] → IsOuter o gs → All (λ g. g.group ≡ n → All (λ u. IsSome (cell_of cells u.cell)) g.uses) gs
outer-there cells n o gs long is = subst (All (λ (g : Summed). g.group ≡ n → All (λ u. IsSome (cell_of cells u.cell)) g.uses)) (sym is.alone) each
  where
    each : All (λ g. g.group ≡ n → All (λ u. IsSome (cell_of cells u.cell)) g.uses) (is.outer ∷ [])
    each zero d within same = over-there cells 1 o 0 is.outer long (omega arith) is.over
    each (suc k) d within same = absurd (omega (arith, within))

-- ---- one cell that is lent to be folded into

pub all-one : {A : Type 0} (P : A → Type 0) (x : A) → P x → All P (x ∷ [])
all-one P x p = All-cons P x [] p (All-nil P)

-- one operation is that of one mode
abbrev operation_or : Operation → Mode → Operation
operation_or o (Folds other) = other
operation_or o mode = o

pub same-operation : (o other : Operation) → Folds o ≡ Folds other → o ≡ other
same-operation o other is = ap (operation_or o) is

pub may-fold : (lent : List LentCell) (i : ℕ) → IsFoldOf i (uses_of lent) → MayChange lent (nth i)
may-fold [] i is = absurd (omega (arith, ap length is.1))
may-fold (l ∷ ls) i is =
    (0, l, omega arith, refl, (ap (λ (us : List Use). (get_or us 0 (use_of l)).cell) is.1, λ reads. folds (sym reads ∙ ap (λ (us : List Use). (get_or us 0 (use_of l)).mode) is.1)))
  where
    folds : Reads ≡ Folds is.0 → ⊥
    folds same = cc

pub all-lent : (P : Cell → Type 0) (lent : List LentCell) (i : ℕ) → IsFoldOf i (uses_of lent) → P (nth i) → All (λ l. P l.cell) lent
all-lent P [] i is p = All-nil (λ (l : LentCell). P l.cell)
all-lent P (l ∷ []) i is p = all-one (λ (l : LentCell). P l.cell) l (subst P (sym (ap (λ (us : List Use). (get_or us 0 (use_of l)).cell) is.1)) p)
all-lent P (l ∷ m ∷ ls) i is p = absurd (omega (arith, ap length is.1))

-- ---- what is left out

pub none-left : {X : Type 0} (x : X) (before out after : List X) → before ≡ [] → IsPermutation (x ∷ before) out → IsPermutation out (x ∷ after) → after ≡ []
none-left {X = X} x before out after none begun ended =
    empty after (omega (arith, ap length none, length_permutation (x ∷ before) out begun, length_permutation out (x ∷ after) ended))
  where
    empty : (xs : List X) → length xs ≡ 0 → xs ≡ []
    empty [] is = refl
    empty (y ∷ ys) is = absurd (omega (arith, is))

-- of two that are out, the second is left once the first is gone
pub second-left : {X : Type 0} (x y : X) (before one two left : List X) → IsPermutation (x ∷ before) one → IsPermutation (y ∷ one) two → IsPermutation two (x ∷ left) → IsPermutation (y ∷ before) left
second-left x y before one two left first second ended =
    permutation_rest x (y ∷ before) left (IsPermutation-trans (x ∷ y ∷ before) (y ∷ x ∷ before) (x ∷ left)
    (IsPermutation-swap (x ∷ y ∷ before) (y ∷ x ∷ before) 0 1 (omega arith) (omega arith) refl)
    (IsPermutation-trans (y ∷ x ∷ before) (y ∷ one) (x ∷ left) (IsPermutation-cons y (x ∷ before) one first) (IsPermutation-trans (y ∷ one) two (x ∷ left) second ended)))
