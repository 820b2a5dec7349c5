-- Two lists of uses in order, passed side by side: what has been passed meets nothing.
use Rattle.std.proofs.Common.{◌≡◌, ℕ, ◌+◌, ◌<◌, ◌≤◌, List, length, get_or, sym, ap, subst, ◌∙◌, inl, inr, arith, Bool, true, false, true≢false}
use Rattle.std.specs.Prelude.{IsTrue}
use Rattle.std.proofs.lemmas.Bool.{cases_eq}
use Rattle.std.proofs.lemmas.List.{get_or_read, get_or_default}
use Rattle.ot_model.specs.Cells.{is_before, Precedes, AreInOrder}
use Rattle.ot_model.specs.declared.expr.Cell.{Cell}
use Rattle.ot_model.specs.declared.stmt.Mode.{Mode}
use Rattle.ot_model.specs.declared.stmt.Use.{Use}
use Rattle.ot_model.proofs.OrderLemmas.{precedes_trans, precedes_apart, before_from_precedes, precedes_from_before, each_precedes}

-- uses at these places are of one cell, in modes that pass the test
abbrev pub MeetsAt : (Mode → Mode → Bool) → List Use → List Use → ℕ → ℕ → Use → Use → Type 0
MeetsAt test us vs k m d e =
    (k < length us) × (m < length vs) × ((get_or us k d).cell ≡ (get_or vs m e).cell) × IsTrue (test (get_or us k d).mode (get_or vs m e).mode)

-- no use before these places meets one of the other list
abbrev pub NoneBefore : (Mode → Mode → Bool) → List Use → List Use → ℕ → ℕ → Type 0
NoneBefore test us vs i j = (k m : ℕ) (d e : Use) → MeetsAt test us vs k m d e → (i ≤ k) × (j ≤ m)

-- a use at a place of its list
pub record Stands (us : List Use) (i : ℕ) (u : Use) : Type 0 where
  pub within : i < length us
  pub is : u ≡ get_or us i u

pub stands : (us : List Use) (i : ℕ) (d : Use) → i < length us → Stands us i (get_or us i d)
stands us i d within = record { within = within; is = get_or_default us i d (get_or us i d) within }

-- the same with the lists exchanged
other_way : (test : Mode → Mode → Bool) (us vs : List Use) (i j : ℕ) → NoneBefore test us vs i j → NoneBefore (λ a b. test b a) vs us j i
other_way test us vs i j none k m d e meets =
    let from = none m k e d (meets.1, meets.0, sym meets.2, meets.3) in
    (from.1, from.0)

-- what precedes a use precedes each one from there on
precedes_later : (vs : List Use) (j m : ℕ) (v e : Use) (a : Cell) → AreInOrder vs → Stands vs j v → m < length vs → j ≤ m → Precedes a v.cell → Precedes a (get_or vs m e).cell
precedes_later vs j m v e a order at within from before =
    let here : v ≡ get_or vs j e = get_or_read vs j v at.within at.is e in
    elim (cases_eq j m) [
      | inl same ↦ subst (λ (w : Use). Precedes a w.cell) (here ∙ ap (λ n. get_or vs n e) same) before
      | inr apart ↦
          let step : Precedes (get_or vs j e).cell (get_or vs m e).cell = each_precedes vs order j m e (omega arith) within in
          precedes_trans a v.cell (get_or vs m e).cell before (subst (λ (w : Use). Precedes w.cell (get_or vs m e).cell) (sym here) step)
    ]

-- a use at its place, whatever stands past the end
cell_at_place : (us : List Use) (i k : ℕ) (u d : Use) → Stands us i u → i ≡ k → u ≡ get_or us k d
cell_at_place us i k u d at same = get_or_read us i u at.within at.is d ∙ ap (λ n. get_or us n d) same

-- a use that precedes where the other list stands is passed
pub pass-one : (test : Mode → Mode → Bool) (us vs : List Use) (i j : ℕ) (u v : Use) → AreInOrder vs → Stands us i u → Stands vs j v →
    is_before u.cell v.cell ≡ true → NoneBefore test us vs i j → NoneBefore test us vs (i + 1) j
pass-one test us vs i j u v order here there before none k m d e meets =
    let from = none k m d e meets in
    elim (cases_eq i k) [
      | inl same ↦ absurd (precedes_apart u.cell (get_or vs m e).cell
          (precedes_later vs j m v e u.cell order there meets.1 from.1 (precedes_from_before u.cell v.cell before))
          (ap (λ w. w.cell) (cell_at_place us i k u d here same) ∙ meets.2))
      | inr apart ↦ (omega arith, from.1)
    ]

pub pass-two : (test : Mode → Mode → Bool) (us vs : List Use) (i j : ℕ) (u v : Use) → AreInOrder us → Stands us i u → Stands vs j v →
    is_before v.cell u.cell ≡ true → NoneBefore test us vs i j → NoneBefore test us vs i (j + 1)
pass-two test us vs i j u v order here there before none =
    other_way (λ a b. test b a) vs us (j + 1) i
    (pass-one (λ a b. test b a) vs us j i v u order there here before (other_way test us vs i j none))

-- of two uses neither of which precedes, and that don't pass the test, the first is passed
past_one : (test : Mode → Mode → Bool) (us vs : List Use) (i j : ℕ) (u v : Use) → AreInOrder vs → Stands us i u → Stands vs j v →
    is_before v.cell u.cell ≡ false → test u.mode v.mode ≡ false → (k m : ℕ) (d e : Use) → MeetsAt test us vs k m d e → i ≤ k → j ≤ m → i + 1 ≤ k
past_one test us vs i j u v order here there behind fails k m d e meets low high =
    elim (cases_eq i k) [
      | inl same ↦
          let one : u ≡ get_or us k d = cell_at_place us i k u d here same in
          elim (cases_eq j m) [
            | inl both ↦
                let two : v ≡ get_or vs m e = cell_at_place vs j m v e there both in
                absurd (true≢false (sym meets.3 ∙ ap (λ w. test w.mode (get_or vs m e).mode) (sym one) ∙ ap (λ w. test u.mode w.mode) (sym two) ∙ fails))
            | inr apart ↦
                let two : v ≡ get_or vs j e = get_or_read vs j v there.within there.is e in
                let step : Precedes (get_or vs j e).cell (get_or vs m e).cell = each_precedes vs order j m e (omega arith) meets.1 in
                let cells : (get_or vs m e).cell ≡ u.cell = sym meets.2 ∙ ap (λ w. w.cell) (sym one) in
                let before : Precedes v.cell u.cell =
                subst (λ (c : Cell). Precedes v.cell c) cells (subst (λ (w : Use). Precedes w.cell (get_or vs m e).cell) (sym two) step) in
                absurd (true≢false (sym (before_from_precedes v.cell u.cell before) ∙ behind))
          ]
      | inr apart ↦ omega arith
    ]

pub pass-both : (test : Mode → Mode → Bool) (us vs : List Use) (i j : ℕ) (u v : Use) → AreInOrder us → AreInOrder vs → Stands us i u → Stands vs j v →
    is_before u.cell v.cell ≡ false → is_before v.cell u.cell ≡ false → test u.mode v.mode ≡ false → NoneBefore test us vs i j → NoneBefore test us vs (i + 1) (j + 1)
pass-both test us vs i j u v ones twos here there front behind fails none k m d e meets =
    let from = none k m d e meets in (
      past_one test us vs i j u v twos here there behind fails k m d e meets from.0 from.1,
      past_one (λ a b. test b a) vs us j i v u ones there here front fails m k e d (meets.1, meets.0, sym meets.2, meets.3) from.1 from.0,
    )
