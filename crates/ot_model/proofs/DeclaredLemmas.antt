-- The mode in which a declaration has a cell.
use Rattle.std.proofs.Common.{◌≡◌, ◌≢◌, ℕ, zero, suc, ◌+◌, ◌<◌, ◌≤◌, ◌&&◌, ◌||◌, Bool, true, false, if◌then◌else◌, List, [], ◌∷◌, length, get_or, refl, sym, ap, subst, ◌∙◌, ◌⊎◌, inl, inr, arith}
use Rattle.std.specs.Prelude.{Option, Some, None}
use Rattle.std.specs.List.{list_any}
use Rattle.std.proofs.lemmas.Bool.{cases_eq, cases_lt}
use Rattle.std.proofs.lemmas.Bool.Decides.{nat_tests}
use Rattle.std.proofs.lemmas.List.{get_or_default}
use Rattle.ot_model.specs.Cells.{same_cell, is_before, AreInOrder, Precedes, mode_in}
use Rattle.ot_model.specs.declared.expr.Cell.{Cell}
use Rattle.ot_model.specs.declared.stmt.Mode.{Mode}
use Rattle.ot_model.specs.declared.stmt.Use.{Use}
use Rattle.ot_model.proofs.CellsLemmas as model
use Rattle.ot_model.proofs.OrderLemmas.{precedes_trans, precedes_apart, rest_in_order, each_precedes}
use Rattle.ot_model.proofs.EqualLemmas.{cell-decides}

or_none : (b : Bool) → (b || false) ≡ b
or_none true = refl
or_none false = refl

false_or : (a b : Bool) → a ≡ false → b ≡ false → (a || b) ≡ false
false_or true b h g = h
false_or false b h g = g

-- the test says whether two cells are one
same_apart : (c d : Cell) → c ≢ d → same_cell c d ≡ false
same_apart c d apart = by (same_cell c d) refl
  where
    by : (b : Bool) → same_cell c d ≡ b → same_cell c d ≡ false
    by true same = absurd (apart ((cell-decides c d).0 same))
    by false other = other

cells_equal : (c d : Cell) → (c ≡ d) ⊎ (c ≢ d)
cells_equal c d = by (same_cell c d) refl
  where
    by : (b : Bool) → same_cell c d ≡ b → (c ≡ d) ⊎ (c ≢ d)
    by true same = inl ((cell-decides c d).0 same)
    by false other = inr (λ is. let met : same_cell c d ≡ true = (cell-decides c d).1 is in let no : true ≡ false = sym met ∙ other in cc)

if_met : {A : Type 0} (b : Bool) (x y : A) → b ≡ true → (if b then x else y) ≡ x
if_met true x y h = refl
if_met false x y h = cc

if_unmet : {A : Type 0} (b : Bool) (x y : A) → b ≡ false → (if b then x else y) ≡ y
if_unmet true x y h = cc
if_unmet false x y h = refl

same_met : (c d : Cell) → c ≡ d → same_cell c d ≡ true
same_met c d is = (cell-decides c d).1 is

any-nowhere : {A : Type 0} (test : A → Bool) (xs : List A) → ((k : ℕ) (d : A) → k < length xs → test (get_or xs k d) ≡ false) → list_any test xs ≡ false
any-nowhere test [] h = refl
any-nowhere test (x ∷ xs) h = false_or (test x) (list_any test xs) (h 0 x (omega arith)) (any-nowhere test xs (λ k d l. h (suc k) d (omega (arith, l))))

later_apart : (u : Use) (us : List Use) → AreInOrder (u ∷ us) → (k : ℕ) (d : Use) → k < length us → u.cell ≢ (get_or us k d).cell
later_apart u us order k d l = precedes_apart u.cell (get_or us k d).cell (each_precedes (u ∷ us) order 0 (suc k) d (omega arith) (omega (arith, l)))

-- ---- found

pub mode_in-at : (us : List Use) (i : ℕ) (d : Use) (c : Cell) → AreInOrder us → i < length us → (get_or us i d).cell ≡ c → mode_in us c ≡ Some (get_or us i d).mode
mode_in-at [] i d c order l is = absurd (omega (arith, l))
mode_in-at (u ∷ us) zero d c order l is = if_met (same_cell c u.cell) (Some u.mode) (mode_in us c) (same_met c u.cell (sym is))
mode_in-at (u ∷ us) (suc i) d c order l is =
    if_unmet (same_cell c u.cell) (Some u.mode) (mode_in us c) (same_apart c u.cell (λ e. later_apart u us order i d (omega (arith, l)) (sym e ∙ sym is)))
    ∙ mode_in-at us i d c (rest_in_order u us order) (omega (arith, l)) is

pub mode_in-none : (us : List Use) (c : Cell) → ((k : ℕ) (d : Use) → k < length us → (get_or us k d).cell ≢ c) → mode_in us c ≡ None
mode_in-none [] c apart = refl
mode_in-none (u ∷ us) c apart =
    if_unmet (same_cell c u.cell) (Some u.mode) (mode_in us c) (same_apart c u.cell (λ e. apart 0 u (omega arith) (sym e)))
    ∙ mode_in-none us c (λ k d l. apart (suc k) d (omega (arith, l)))

-- neither comes before the other
pub neither_before : (a b : Cell) → is_before a b ≡ false → is_before b a ≡ false → a ≡ b
neither_before a b h g = model.same_cell a b (grind (arith, nat_tests)) (grind (arith, nat_tests))

-- ---- what is said of the mode

abbrev pub by_mode : (Mode → Bool) → Option Mode → Bool
by_mode test None = false
by_mode test (Some m) = test m

met_here : (test : Mode → Bool) (b b2 r : Bool) (m : Mode) (o : Option Mode) → b ≡ true → b2 ≡ true → r ≡ false → ((b && test m) || r) ≡ by_mode test (if b2 then Some m else o)
met_here test true true r m o h g none = ap (λ r. test m || r) none ∙ or_none (test m)
met_here test true false r m o h g none = cc
met_here test false b2 r m o h g none = cc

met_later : (test : Mode → Bool) (b b2 r : Bool) (m : Mode) (o : Option Mode) → b ≡ false → b2 ≡ false → r ≡ by_mode test o → ((b && test m) || r) ≡ by_mode test (if b2 then Some m else o)
met_later test true b2 r m o h g later = cc
met_later test false true r m o h g later = cc
met_later test false false r m o h g later = later

pub any-by_mode : (test : Mode → Bool) (us : List Use) (c : Cell) → AreInOrder us → list_any (λ d. same_cell d.cell c && test d.mode) us ≡ by_mode test (mode_in us c)
any-by_mode test [] c order = refl
any-by_mode test (u ∷ us) c order =
    elim (cells_equal u.cell c) [
      | inl is ↦
          met_here test (same_cell u.cell c) (same_cell c u.cell) (list_any (λ d. same_cell d.cell c && test d.mode) us) u.mode (mode_in us c) (same_met u.cell c is)
          (same_met c u.cell (sym is))
          (any-nowhere (λ d. same_cell d.cell c && test d.mode) us
          (λ k d l. ap (λ b. b && test (get_or us k d).mode) (same_apart (get_or us k d).cell c (λ e. later_apart u us order k d l (is ∙ sym e)))))
      | inr apart ↦
          met_later test (same_cell u.cell c) (same_cell c u.cell) (list_any (λ d. same_cell d.cell c && test d.mode) us) u.mode (mode_in us c) (same_apart u.cell c apart)
          (same_apart c u.cell (λ e. apart (sym e)))
          (any-by_mode test us c (rest_in_order u us order))
    ]

-- ---- looking for a cell by halves

pub before_more : (us : List Use) (m : ℕ) (c : Cell) (e : Use) → AreInOrder us → m < length us → Precedes (get_or us m e).cell c
    → (k : ℕ) (d : Use) → k < m + 1 → Precedes (get_or us k d).cell c
before_more us m c e order l before k d below =
    let same : get_or us m e ≡ get_or us m d = get_or_default us m e d l in
    let here : Precedes (get_or us m d).cell c = subst (λ u. Precedes u.cell c) same before in
    elim (cases_eq k m) [
      | inl is ↦ subst (λ k. Precedes (get_or us k d).cell c) (sym is) here
      | inr apart ↦ precedes_trans (get_or us k d).cell (get_or us m d).cell c (each_precedes us order k m d (omega (arith, below, apart)) l) here
    ]

pub after_more : (us : List Use) (m : ℕ) (c : Cell) (e : Use) → AreInOrder us → m < length us → Precedes c (get_or us m e).cell
    → (k : ℕ) (d : Use) → m ≤ k → k < length us → Precedes c (get_or us k d).cell
after_more us m c e order l after k d above within =
    let same : get_or us m e ≡ get_or us m d = get_or_default us m e d l in
    let here : Precedes c (get_or us m d).cell = subst (λ u. Precedes c u.cell) same after in
    elim (cases_eq k m) [
      | inl is ↦ subst (λ k. Precedes c (get_or us k d).cell) (sym is) here
      | inr apart ↦ precedes_trans c (get_or us m d).cell (get_or us k d).cell here (each_precedes us order m k d (omega (arith, above, apart)) within)
    ]

-- what stands below and above leaves no place for it
pub nowhere : (us : List Use) (c : Cell) (low high : ℕ) → high ≤ low → ((k : ℕ) (d : Use) → k < low → Precedes (get_or us k d).cell c)
    → ((k : ℕ) (d : Use) → high ≤ k → k < length us → Precedes c (get_or us k d).cell) → mode_in us c ≡ None
nowhere us c low high met below above =
    mode_in-none us c (λ k d l. elim (cases_lt k low) [
      | inl less ↦ precedes_apart (get_or us k d).cell c (below k d less)
      | inr more ↦ λ e. precedes_apart c (get_or us k d).cell (above k d (omega (arith, met, more)) l) (sym e)
    ])
