-- Events that are ordered where their touches are against each other.
use Rattle.std.proofs.Common.{◌≡◌, ◌<◌, ◌≤◌, ◌+◌, ℕ, Bool, true, false, ◌&&◌, List, [], refl, sym, ap, subst, ◌∙◌, inl, inr, arith}
use Rattle.std.specs.Prelude.{◌↔◌, not, All, Contains, Some, slice_get}
use Rattle.std.proofs.lemmas.Bool.{cases_eq, cases_lt}
use Rattle.std.proofs.lemmas.List.Elements.{All-contains}
use Rattle.ot_model.specs.Cells.{conflicts}
use Rattle.ot_model.specs.declared.expr.Cell.{Cell}
use Rattle.ot_model.specs.declared.stmt.Mode.{Mode}
use Rattle.ot_model.specs.declared.stmt.Use.{Use}
use Rattle.ot_check.specs.Offences.{use_as}
use Rattle.ot_race.specs.Events.{Event}
use Rattle.ot_race.specs.Histories.{Touched}
use Rattle.ot_race.specs.Order.{IsBefore}
use Rattle.ot_race.specs.Races.{IsUsed}
use Rattle.ot_race.specs.Standings.{IsUpTo}
use Rattle.ot_race.proofs.OrderLemmas.{up_trans, before_trans}
use Rattle.ot_race.proofs.HistoryLemmas.{same_event}
use Rattle.ot_sets.specs.Sets.{has}
use Rattle.ot_sets.specs.declared.numbers.Numbers.{Numbers}
use Rattle.ot_race_locks.specs.OpenRaces.{Kind, IsOpenRace, set_at, locks_in, share}
use Rattle.ot_race_locks.specs.Kinds.{kind, kind_of, are_against, AreGroups, NoneMissing, OneMissing, AreOrdered, IsBehindAll}
use Rattle.ot_race_locks.specs.declared.group.Group.{Group}
use Rattle.ot_race_locks.specs.declared.locks.Locks.{Locks}

none_there : {A : Type 0} (x : A) → Contains [] x → ⊥
none_there x h = omega (arith, h.1)

against_of : (a b : Bool) → (a && not b) ≡ true → (a ≡ true) × (b ≡ false)
against_of true false h = (refl, refl)
against_of true true h = cc
against_of false b h = cc

against_are : (a b : Bool) → a ≡ true → b ≡ false → (a && not b) ≡ true
against_are true false h k = refl
against_are true true h k = cc
against_are false b h k = cc

-- what is kept of earlier events alone is of these
early : (es : List Event) (n : ℕ) (c : Cell) (mode : Mode) (i : ℕ) → Touched es n [] c mode i → (i < n) × IsUsed es c mode i
early es n c mode i (inl t) = t
early es n c mode i (inr t) = absurd (none_there (use_as mode c) t.1)

up_before : (es : List Event) (i n : ℕ) → i < n → IsUpTo es i n → IsBefore es i n
up_before es i n low (inl same) = absurd (omega (arith, same, low))
up_before es i n low (inr before) = before

before_up : (es : List Event) (i j n : ℕ) → IsBefore es i j → IsUpTo es j n → IsBefore es i n
before_up es i j n b (inl same) = subst (IsBefore es i) same b
before_up es i j n b (inr c) = before_trans es i j n b c

pub use_behind : (es : List Event) (locks : Locks) (n : ℕ) (u : Use) (known : Numbers) (groups : List Group)
    → ((i : ℕ) → (has known i ≡ true) ↔ IsUpTo es i n) → AreGroups es locks n [] u.cell groups → AreOrdered es locks n
    → NoneMissing locks groups (kind (set_at locks n) u.mode) known → IsBehindAll es locks n u
use_behind es locks n u known groups up h ordered none mode i low used against =
    let b = h.all mode i (inl (low, used)) in
    let own : Kind = kind (set_at locks n) u.mode in
    let apart : are_against locks (kind_of b.group) own ≡ true = ap (λ k. are_against locks k own) b.kind_is ∙ against in
    elim (cases_lt b.tip none.from) [
      | inl before ↦ elim none.is_from [
        | inl zero_is ↦ absurd (omega (arith, before, zero_is))
        | inr from ↦
            let g = from.0 in
            let mine = h.tips g none.from from.1 from.3 in
            let tip = h.tips b.group b.tip b.there b.tip_there in
            let now = early es n u.cell g.mode none.from mine.touched in
            let then = early es n u.cell b.group.mode b.tip tip.touched in
            let kinds : are_against locks (kind (set_at locks b.tip) b.group.mode) (kind (set_at locks none.from) g.mode) ≡ true =
            ap (λ s. are_against locks (kind s b.group.mode) (kind (set_at locks none.from) g.mode)) tip.set_is
            ∙ ap (λ s. are_against locks (kind_of b.group) (kind s g.mode)) mine.set_is
            ∙ ap (are_against locks (kind_of b.group)) from.2 ∙ apart in
            let first = ordered u.cell b.group.mode g.mode b.tip none.from before now.0 then.1 now.1 kinds in
            up_before es i n low (up_trans es i b.tip n b.reached (inr (before_up es b.tip none.from n first ((up none.from).0 from.4))))
      ]
      | inr from ↦ up_before es i n low (up_trans es i b.tip n b.reached ((up b.tip).0 (none.none b.group b.tip b.there apart b.tip_there from)))
    ]

pub use_races : (es : List Event) (locks : Locks) (n e : ℕ) (u : Use) (known : Numbers) (groups : List Group)
    → ((i : ℕ) → (has known i ≡ true) ↔ IsUpTo es i n) → AreGroups es locks n [] u.cell groups
    → OneMissing locks groups (kind (set_at locks n) u.mode) known e → IsUsed es u.cell u.mode n → IsOpenRace es locks u.cell e n
use_races es locks n e u known groups up h one used =
    let g = one.group in
    let tip = h.tips g e one.there one.tip in
    let then = early es n u.cell g.mode e tip.touched in
    let both = against_of (conflicts g.mode u.mode) (share (locks_in locks g.set) (locks_in locks (set_at locks n))) one.against in
    record {
      race = record {
        order = then.0;
        one = g.mode;
        other = u.mode;
        first = then.1;
        second = used;
        conflict = both.0;
        unordered = λ b. missing_known (has known e) one.missing ((up e).1 (inr b));
      };
      apart = ap (λ s. share (locks_in locks s) (locks_in locks (set_at locks n))) tip.set_is ∙ both.1;
    }
  where
    missing_known : (b : Bool) → b ≡ false → b ≡ true → ⊥
    missing_known b h k = cc

pub ordered_next : (es : List Event) (locks : Locks) (n : ℕ) (e : Event) → slice_get es n ≡ Some e → AreOrdered es locks n → All (IsBehindAll es locks n) e.uses
    → AreOrdered es locks (n + 1)
ordered_next es locks n e at ordered all = λ c one other i j l low first second against.
    elim (cases_eq j n) [
      | inl same ↦
          let here : IsUsed es c other n = subst (IsUsed es c other) same second in
          let k : i < n = omega (arith, l, same) in
          subst (IsBefore es i) (sym same)
          (All-contains (IsBehindAll es locks n) e.uses (use_as other c) all (same_event es n c other e at here) one i k first
          (ap (λ x. are_against locks (kind (set_at locks i) one) (kind (set_at locks x) other)) (sym same) ∙ against))
      | inr apart ↦ ordered c one other i j l (omega (arith, low, apart)) first second against
    ]

-- what is ordered races nowhere
pub open_late : (es : List Event) (locks : Locks) (n : ℕ) → AreOrdered es locks n → (c : Cell) (i j : ℕ) → IsOpenRace es locks c i j → n ≤ j
open_late es locks n ordered c i j r =
    elim (cases_lt j n) [
      | inl low ↦
          absurd (r.race.unordered (ordered c r.race.one r.race.other i j r.race.order low r.race.first r.race.second
          (against_are (conflicts r.race.one r.race.other) (share (locks_in locks (set_at locks i)) (locks_in locks (set_at locks j))) r.race.conflict r.apart)))
      | inr late ↦ late
    ]
