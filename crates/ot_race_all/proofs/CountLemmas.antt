-- How many touches there are.
use Rattle.std.proofs.Common.{◌≡◌, ◌≢◌, ◌<◌, ◌≤◌, ◌+◌, ◌-◌, ℕ, Bool, true, false, cond, List, [], ◌∷◌, ◌++◌, length, length-append, take, get_or, sym, ap, ◌∙◌, inl, inr, arith, add-one}
use Rattle.std.specs.Prelude.{Some, slice_get}
use Rattle.std.specs.List.{sum_by, count_by}
use Rattle.std.proofs.lemmas.List.Sums.{sum_by_more}
use Rattle.std.proofs.lemmas.Option.{slice_get_within, get_or_from_slice_get}
use Rattle.ot_model.specs.Cells.{same_cell}
use Rattle.ot_model.specs.declared.expr.Cell.{Cell}
use Rattle.ot_model.specs.declared.stmt.Use.{Use}
use Rattle.ot_check.proofs.Cited.{cells_equal, same_itself, same_is}
use Rattle.ot_race.specs.Events.{Event}
use Rattle.ot_race.proofs.HistoryLemmas.{true_or_false}
use Rattle.ot_race_all.specs.AllRaces.{touches_before, pairs_with, pairs_within, uses_in}
use Rattle.ot_race_all.specs.declared.touched.Touch.{Touch}

same_true : (c d : Cell) → c ≡ d → same_cell c d ≡ true
same_true c d h = ap (same_cell c) (sym h) ∙ same_itself c

same_false : (c d : Cell) → c ≢ d → same_cell c d ≡ false
same_false c d h = elim (true_or_false (same_cell c d)) [ inl is ↦ absurd (h (same_is c d is)) | inr apart ↦ apart ]

abbrev bit : Bool → ℕ
bit b = cond b 1 0

-- one use more
pub counts_more : (uses : List Use) (k : ℕ) (none : Use) (old new : List Touch) (t : Touch) (before : ℕ) (d : Cell) → k < length uses
    → (d ≡ (get_or uses k none).cell → new ≡ old ++ t ∷ []) → (d ≢ (get_or uses k none).cell → new ≡ old)
    → length old ≡ before + count_by (λ u. same_cell d u.cell) (take k uses)
    → length new ≡ before + count_by (λ u. same_cell d u.cell) (take (k + 1) uses)
counts_more uses k none old new t before d low here other was =
    let u = get_or uses k none in
    let tick : Use → ℕ = λ (u : Use). bit (same_cell d u.cell) in
    let more = sum_by_more tick uses k none low in
    elim (cells_equal d u.cell) [
      | inl same ↦
          let one : tick u ≡ 1 = ap (λ b. bit b) (same_true d u.cell same) in
          let long : length new ≡ length old + 1 = ap length (here same) ∙ length-append old (t ∷ []) in
          omega (arith, was, more, one, long)
      | inr apart ↦
          let none_more : tick u ≡ 0 = ap (λ b. bit b) (same_false d u.cell apart) in
          let long : length new ≡ length old = ap length (other apart) in
          omega (arith, was, more, none_more, long)
    ]

-- one event more
pub counts_next : (es : List Event) (n : ℕ) (e : Event) (d : Cell) (uses : List Use) → slice_get es n ≡ Some e → uses ≡ e.uses
    → touches_before es n d + count_by (λ u. same_cell d u.cell) uses ≡ touches_before es (n + 1) d
counts_next es n e d uses at all =
    let f = λ (e : Event). count_by (λ u. same_cell d u.cell) e.uses in
    let more = sum_by_more f es n e (slice_get_within es n e at) in
    let it : f (get_or es n e) ≡ f e = ap f (get_or_from_slice_get es n e e at) in
    let is : count_by (λ u. same_cell d u.cell) uses ≡ f e = ap (λ us. count_by (λ u. same_cell d u.cell) us) all in
    omega (arith, more, it, is)

pub within_next : (es : List Event) (n : ℕ) → pairs_within es (n + 1) ≡ pairs_within es n + pairs_with es n
within_next es n = ap (pairs_within es) (add-one n)

pub pairs_here : (es : List Event) (n : ℕ) (e : Event) (uses : List Use) → slice_get es n ≡ Some e → uses ≡ e.uses
    → sum_by (λ u. touches_before es n u.cell) uses ≡ pairs_with es n
pairs_here es n e uses at all = ap (λ us. sum_by (λ (u : Use). touches_before es n u.cell) us) (all ∙ sym (ap uses_in at))

-- ---- comparisons that are left

pub left_next : (old left count s more f : ℕ) → old ≡ left + s → more ≡ s + f → count ≡ f → count ≤ left → old ≡ (left - count) + more
left_next old left count s more f is next same low = omega (arith, is, next, same, low)

pub left_few : (old left count s f all : ℕ) → old ≡ left + s → s + f ≤ all → count ≡ f → left < count → old < all
left_few old left count s f all is within same low = omega (arith, is, within, same, low)

pub left_after : (es : List Event) (n most left new : ℕ) → most ≤ left + pairs_within es n → left ≡ new + pairs_with es n → most ≤ new + pairs_within es (n + 1)
left_after es n most left new was is = omega (arith, was, is, within_next es n)

pub left_before : (es : List Event) (n most left : ℕ) → most ≤ left + pairs_within es n → most ≤ left + pairs_within es (n + 1)
left_before es n most left was = omega (arith, was, within_next es n)
