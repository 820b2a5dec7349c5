-- Uses in order, each cell once: where a cell's place is, and what stands in a list with one use changed or one more.
use Rattle.std.proofs.Common.{◌≡◌, ◌≢◌, ◌<◌, ◌≤◌, ℕ, zero, suc, ◌-◌, Bool, true, false, true≢false, List, [], ◌∷◌, set, get_or, length, Some, refl, sym, ap, subst, ◌∙◌, arith, inl, inr}
use Rattle.std.specs.Prelude.{if◌then◌else◌}
use Rattle.std.specs.List.{insert, slice_get, AllWithin}
use Rattle.std.specs.List.Sorted.{IsPartitionedBy}
use Rattle.std.proofs.lemmas.Bool.{cases_lt}
use Rattle.std.proofs.lemmas.Option.{get_or_from_slice_get}
use Rattle.ot_model.specs.Cells.{Precedes, AreInOrder, mode_in, same_cell, is_before}
use Rattle.ot_model.specs.declared.expr.Cell.{Cell}
use Rattle.ot_model.specs.declared.stmt.Mode.{Mode}
use Rattle.ot_model.specs.declared.stmt.Use.{Use}
use Rattle.ot_model.proofs.EqualLemmas.{cell-decides}
use Rattle.ot_model.proofs.OrderLemmas.{precedes_trans, precedes_apart, before_from_precedes, precedes_from_before, rest_in_order, each_precedes}
use Rattle.ot_model.proofs.DeclaredLemmas.{after_more, neither_before}
use Rattle.ot_parts.specs.Modes.{with_mode, mode_added}

-- ---- the place of a cell

pub parted_by_cell : (us : List Use) (cell : Cell) → AreInOrder us → IsPartitionedBy (λ u. is_before u.cell cell) us
parted_by_cell us cell order i j d below within test =
    elim (cases_lt i j) [
      | inl less ↦ before_from_precedes (get_or us i d).cell cell (precedes_trans (get_or us i d).cell (get_or us j d).cell cell
          (each_precedes us order i j d less within) (precedes_from_before (get_or us j d).cell cell test))
      | inr rest ↦ let same : i ≡ j = omega arith in ap (λ k. is_before (get_or us k d).cell cell) same ∙ test
    ]

-- where the last cell comes before this one, all do
pub all_before : (us : List Use) (cell : Cell) (last : Use) → AreInOrder us → slice_get us (length us - 1) ≡ Some last → is_before last.cell cell ≡ true →
    AllWithin (λ u. is_before u.cell cell ≡ true) us 0 (length us)
all_before us cell last order is test k d from within =
    let here : get_or us (length us - 1) d ≡ last = get_or_from_slice_get us (length us - 1) last d is in
    parted_by_cell us cell order k (length us - 1) d (omega (arith, within)) (omega (arith, within)) (ap (λ (u : Use). is_before u.cell cell) here ∙ test)

-- where the cell isn't met at its place, it comes before what stands from there on
pub behind_place : (us : List Use) (i : ℕ) (cell : Cell) → AreInOrder us → AllWithin (λ u. is_before u.cell cell ≡ false) us i (length us) →
    ((d : Use) → i < length us → (get_or us i d).cell ≢ cell) → (k : ℕ) (d : Use) → i ≤ k → k < length us → Precedes cell (get_or us k d).cell
behind_place us i cell order back other k d from within =
    after_more us i cell d order (omega (arith, from, within)) here k d from within
  where
    here : Precedes cell (get_or us i d).cell
    here = by (is_before cell (get_or us i d).cell) refl
      where
        by : (b : Bool) → is_before cell (get_or us i d).cell ≡ b → Precedes cell (get_or us i d).cell
        by true before = precedes_from_before cell (get_or us i d).cell before
        by false not = absurd (other d (omega (arith, from, within)) (neither_before (get_or us i d).cell cell (back i d (omega arith) (omega (arith, from, within))) not))

-- before its place another cell is met
pub before_place : (us : List Use) (i : ℕ) (cell : Cell) → AllWithin (λ u. is_before u.cell cell ≡ true) us 0 i → (k : ℕ) (d : Use) → k < i → Precedes (get_or us k d).cell cell
before_place us i cell front k d below = precedes_from_before (get_or us k d).cell cell (front k d (omega arith) below)

-- ---- a list with one cell changed or one more

apart_test : (x c d : Cell) → same_cell x c ≡ true → c ≢ d → same_cell x d ≡ false
apart_test x c d same apart = by (same_cell x d) refl
  where
    by : (b : Bool) → same_cell x d ≡ b → same_cell x d ≡ false
    by true met = absurd (apart (sym ((cell-decides x c).0 same) ∙ (cell-decides x d).0 met))
    by false not = not

-- one in front of others in order
in_front : (v : Use) (vs : List Use) → ((d : Use) → 0 < length vs → Precedes v.cell (get_or vs 0 d).cell) → AreInOrder vs → AreInOrder (v ∷ vs)
in_front v [] first order = tt
in_front v (w ∷ vs) first order = (first w (omega arith), order)

-- as a cell sees it, this use stands there in place of what stood
abbrev pub Sees : List Use → List Use → Use → Type 0
Sees us vs u = (x : Cell) → mode_in vs x ≡ (if same_cell x u.cell then Some u.mode else mode_in us x)

-- what comes first sees no use of a later cell
sees_later : (us vs : List Use) (v u : Use) → v.cell ≢ u.cell → Sees us vs u → Sees (v ∷ us) (v ∷ vs) u
sees_later us vs v u apart rest x = by (same_cell x v.cell) refl
  where
    by : (b : Bool) → same_cell x v.cell ≡ b → (if b then Some v.mode else mode_in vs x) ≡ (if same_cell x u.cell then Some u.mode else (if b then Some v.mode else mode_in us x))
    by true is = sym (ap (λ (b : Bool). if b then Some u.mode else Some v.mode) (apart_test x v.cell u.cell is apart))
    by false is = rest x

first-insert : (v u : Use) (us : List Use) (i : ℕ) → AreInOrder (v ∷ us) → i ≤ length us → Precedes v.cell u.cell → (d : Use) → Precedes v.cell (get_or (insert us i u) 0 d).cell
first-insert v u us zero order within before d = before
first-insert v u [] (suc i) order within before d = absurd (omega (arith, within))
first-insert v u (w ∷ us) (suc i) order within before d = order.0

pub order-insert : (us : List Use) (i : ℕ) (u : Use) → AreInOrder us → i ≤ length us → ((k : ℕ) (d : Use) → k < i → Precedes (get_or us k d).cell u.cell) →
    ((k : ℕ) (d : Use) → i ≤ k → k < length us → Precedes u.cell (get_or us k d).cell) → AreInOrder (insert us i u)
order-insert us zero u order within front back = in_front u us (λ d some. back 0 d (omega arith) some) order
order-insert [] (suc i) u order within front back = absurd (omega (arith, within))
order-insert (v ∷ us) (suc i) u order within front back =
    in_front v (insert us i u) (λ d some. first-insert v u us i order (omega (arith, within)) (front 0 v (omega arith)) d)
    (order-insert us i u (rest_in_order v us order) (omega (arith, within)) (λ k d below. front (suc k) d (omega (arith, below)))
    (λ k d from in_it. back (suc k) d (omega (arith, from)) (omega (arith, in_it))))

pub sees-insert : (us : List Use) (i : ℕ) (u : Use) → i ≤ length us → ((k : ℕ) (d : Use) → k < i → Precedes (get_or us k d).cell u.cell) → Sees us (insert us i u) u
sees-insert us zero u within front x = refl
sees-insert [] (suc i) u within front x = absurd (omega (arith, within))
sees-insert (v ∷ us) (suc i) u within front x =
    sees_later us (insert us i u) v u (precedes_apart v.cell u.cell (front 0 v (omega arith)))
    (sees-insert us i u (omega (arith, within)) (λ k d below. front (suc k) d (omega (arith, below)))) x

pub order-set : (us : List Use) (i : ℕ) (u : Use) → AreInOrder us → ((d : Use) → i < length us → (get_or us i d).cell ≡ u.cell) → AreInOrder (set us i u)
order-set [] i u order is = tt
order-set (v ∷ us) zero u order is =
    in_front u us (λ d some. subst (λ c. Precedes c (get_or us 0 d).cell) (is v (omega arith)) (each_precedes (v ∷ us) order 0 1 d (omega arith) (omega (arith, some)))) (rest_in_order v us order)
order-set (v ∷ us) (suc i) u order is =
    in_front v (set us i u) (first us i order (λ d within. is d (omega (arith, within)))) (order-set us i u (rest_in_order v us order) (λ d within. is d (omega (arith, within))))
  where
    first : (ws : List Use) (j : ℕ) → AreInOrder (v ∷ ws) → ((d : Use) → j < length ws → (get_or ws j d).cell ≡ u.cell) → (d : Use) → 0 < length (set ws j u) → Precedes v.cell (get_or (set ws j u) 0 d).cell
    first [] j o here d some = absurd (omega (arith, some))
    first (w ∷ ws) zero o here d some = subst (Precedes v.cell) (here w (omega arith)) o.0
    first (w ∷ ws) (suc j) o here d some = o.0

pub sees-set : (us : List Use) (i : ℕ) (u : Use) → AreInOrder us → i < length us → ((d : Use) → (get_or us i d).cell ≡ u.cell) → Sees us (set us i u) u
sees-set [] i u order within is x = absurd (omega (arith, within))
sees-set (v ∷ us) zero u order within is x = by (same_cell x u.cell) refl
  where
    by : (b : Bool) → same_cell x u.cell ≡ b → (if b then Some u.mode else mode_in us x) ≡ (if b then Some u.mode else (if same_cell x v.cell then Some v.mode else mode_in us x))
    by true met = refl
    by false not = sym (ap (λ (b : Bool). if b then Some v.mode else mode_in us x) (ap (same_cell x) (is v) ∙ not))
sees-set (v ∷ us) (suc i) u order within is x =
    sees_later us (set us i u) v u (λ same. precedes_apart v.cell (get_or us i v).cell (each_precedes (v ∷ us) order 0 (suc i) v (omega arith) within) (same ∙ sym (is v)))
    (sees-set us i u (rest_in_order v us order) (omega (arith, within)) is) x

-- ---- one use more

-- the test of two cells the other way round
same_other : (c d : Cell) → same_cell c d ≡ same_cell d c
same_other c d = by (same_cell c d) (same_cell d c) refl refl
  where
    by : (a b : Bool) → same_cell c d ≡ a → same_cell d c ≡ b → a ≡ b
    by true true met same = refl
    by true false met not = absurd (true≢false (sym ((cell-decides d c).1 (sym ((cell-decides c d).0 met))) ∙ not))
    by false true not same = absurd (true≢false (sym ((cell-decides c d).1 (sym ((cell-decides d c).0 same))) ∙ not))
    by false false not other = refl

pub added-one : (u : Use) (m : Mode) (us vs : List Use) → m ≡ with_mode (mode_in us u.cell) u.mode → Sees us vs (record { cell = u.cell; mode = m }) →
    (c : Cell) → mode_in vs c ≡ mode_added c (mode_in us c) u
added-one u m us vs is sees c =
    sees c ∙ ap (λ (b : Bool). if b then Some m else mode_in us c) (same_other c u.cell) ∙ by (same_cell u.cell c) refl
  where
    by : (b : Bool) → same_cell u.cell c ≡ b → (if b then Some m else mode_in us c) ≡ (if b then Some (with_mode (mode_in us c) u.mode) else mode_in us c)
    by true same = ap Some (is ∙ ap (λ x. with_mode (mode_in us x) u.mode) ((cell-decides u.cell c).0 same))
    by false not = refl
