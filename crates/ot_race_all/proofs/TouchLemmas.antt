-- Touches by cell.
use Rattle.std.proofs.Common.{◌≡◌, ◌≢◌, ◌<◌, ◌+◌, ℕ, List, [], ◌∷◌, ◌++◌, sym, ap, subst, ◌∙◌, inl, inr, arith}
use Rattle.std.specs.Prelude.{◌↔◌, All, Contains, Some, slice_get}
use Rattle.std.proofs.lemmas.Bool.{cases_eq}
use Rattle.std.proofs.lemmas.List.Elements.{All-weaker, All-contains, All-contains_itself, Contains-append_left, Contains-push, Contains-push_cases}
use Rattle.ot_model.specs.declared.expr.Cell.{Cell}
use Rattle.ot_model.specs.declared.stmt.Mode.{Mode}
use Rattle.ot_model.specs.declared.stmt.Use.{Use}
use Rattle.ot_check.specs.Offences.{use_as}
use Rattle.ot_check.proofs.Cited.{cells_equal}
use Rattle.ot_race.specs.Events.{Event}
use Rattle.ot_race.specs.Histories.{Touched}
use Rattle.ot_race.specs.Races.{IsUsed}
use Rattle.ot_race.proofs.HistoryLemmas.{more_touched, touched_cases, same_event}
use Rattle.ot_race_all.specs.Found.{touches_at, AreTouches, TouchTold, UseTold}
use Rattle.ot_race_all.specs.declared.found.Found.{Found}
use Rattle.ot_race_all.specs.declared.touched.Row.{Row}
use Rattle.ot_race_all.specs.declared.touched.Touch.{Touch}

abbrev touch : Mode → ℕ → Touch
touch mode i = record { mode = mode; number = i }

none_there : {A : Type 0} (x : A) → Contains [] x → ⊥
none_there x h = omega (arith, h.1)

another_touched : (es : List Event) (n : ℕ) (front : List Use) (u : Use) (c : Cell) → c ≢ u.cell → (o : Mode) (i : ℕ) → Touched es n (front ++ u ∷ []) c o i
    → Touched es n front c o i
another_touched es n front u c apart o i t =
    elim (touched_cases es n front u c o i t) [
      | inl old ↦ old
      | inr new ↦ absurd (apart (sym (ap (λ (v : Use). v.cell) new.1)))
    ]

-- a cell that has one touch more
here_more : (es : List Event) (n : ℕ) (front : List Use) (u : Use) (ts : List Touch)
    → ((mode : Mode) (i : ℕ) → Contains ts (touch mode i) ↔ Touched es n front u.cell mode i)
    → (mode : Mode) (i : ℕ) → Contains (ts ++ touch u.mode n ∷ []) (touch mode i) ↔ Touched es n (front ++ u ∷ []) u.cell mode i
here_more es n front u ts h = λ mode i. (
  λ l. elim (Contains-push_cases ts (touch u.mode n) (touch mode i) l) [
    | inl old ↦ more_touched es n front u u.cell mode i ((h mode i).0 old)
    | inr new ↦ inr (
      sym (ap (λ (t : Touch). t.number) new),
      subst (λ m. Contains (front ++ u ∷ []) (use_as m u.cell)) (ap (λ (t : Touch). t.mode) new) (Contains-push front u),
    )
  ],
  λ t. elim (touched_cases es n front u u.cell mode i t) [
    | inl old ↦ Contains-append_left ts (touch u.mode n ∷ []) (touch mode i) ((h mode i).1 old)
    | inr new ↦
        subst (λ (t : Touch). Contains (ts ++ touch u.mode n ∷ []) t) (ap (λ k. touch u.mode k) (sym new.0) ∙ ap (λ (v : Use). touch v.mode i) new.1)
        (Contains-push ts (touch u.mode n))
  ],
)

pub touches_more : (es : List Event) (n : ℕ) (front : List Use) (u : Use) (rows new : List Row) → AreTouches es n front rows
    → touches_at new u.cell ≡ touches_at rows u.cell ++ touch u.mode n ∷ [] → ((c : Cell) → c ≢ u.cell → touches_at new c ≡ touches_at rows c)
    → AreTouches es n (front ++ u ∷ []) new
touches_more es n front u rows new h here others = λ c.
    elim (cells_equal c u.cell) [
      | inl same ↦
          subst (λ d. (mode : Mode) (i : ℕ) → Contains (touches_at new d) (touch mode i) ↔ Touched es n (front ++ u ∷ []) d mode i) (sym same)
          (subst (λ ts. (mode : Mode) (i : ℕ) → Contains ts (touch mode i) ↔ Touched es n (front ++ u ∷ []) u.cell mode i) (sym here)
          (here_more es n front u (touches_at rows u.cell) (h u.cell)))
      | inr apart ↦
          subst (λ ts. (mode : Mode) (i : ℕ) → Contains ts (touch mode i) ↔ Touched es n (front ++ u ∷ []) c mode i) (sym (others c apart))
          (λ mode i. (λ l. more_touched es n front u c mode i ((h c mode i).0 l), λ t. (h c mode i).1 (another_touched es n front u c apart mode i t)))
    ]

pub touches_next : (es : List Event) (n : ℕ) (e : Event) (rows : List Row) → slice_get es n ≡ Some e → AreTouches es n e.uses rows
    → AreTouches es (n + 1) [] rows
touches_next es n e rows at h = λ c mode i. (
  λ l. elim ((h c mode i).0 l) [
    | inl old ↦ inl (omega (arith, old.0), old.1)
    | inr new ↦
        let here : slice_get es i ≡ Some e = ap (slice_get es) new.0 ∙ at in
        inl (omega (arith, new.0), record { it = e; there = here; uses = new.1 })
  ],
  λ t. (h c mode i).1 (elim t [
    | inl old ↦ elim (cases_eq i n) [
      | inl same ↦ inr (same, same_event es n c mode e at (subst (IsUsed es c mode) same old.1))
      | inr apart ↦ inl (omega (arith, old.0, apart), old.1)
    ]
    | inr none ↦ absurd (none_there (use_as mode c) none.1)
  ]),
)

pub touches_none : (es : List Event) (rows : List Row) → ((c : Cell) → touches_at rows c ≡ []) → AreTouches es 0 [] rows
touches_none es rows none = λ c mode i. (
  λ l. absurd (none_there (touch mode i) (subst (λ ts. Contains ts (touch mode i)) (none c) l)),
  λ t. elim t [ inl old ↦ absurd (omega (arith, old.0)) | inr new ↦ absurd (none_there (use_as mode c) new.1) ],
)

-- the touches of a cell are of earlier events
pub touches_early : (es : List Event) (n : ℕ) (c : Cell) (rows : List Row) → AreTouches es n [] rows
    → All (λ (t : Touch). (t.number < n) × IsUsed es c t.mode t.number) (touches_at rows c)
touches_early es n c rows h =
    All-weaker (Contains (touches_at rows c)) (λ (t : Touch). (t.number < n) × IsUsed es c t.mode t.number)
    (λ t l. elim ((h c t.mode t.number).0 l) [ inl old ↦ old | inr none ↦ absurd (none_there (use_as t.mode c) none.1) ]) (touches_at rows c)
    (All-contains_itself (touches_at rows c))

-- a use is told where it is beside each touch
pub use_told : (es : List Event) (n : ℕ) (u : Use) (rows : List Row) (found : Found) → AreTouches es n [] rows
    → All (λ (t : Touch). TouchTold es n u found t.mode t.number) (touches_at rows u.cell) → UseTold es n found u
use_told es n u rows found h all mode i low used =
    All-contains (λ (t : Touch). TouchTold es n u found t.mode t.number) (touches_at rows u.cell) (touch mode i) all ((h u.cell mode i).1 (inl (low, used)))
