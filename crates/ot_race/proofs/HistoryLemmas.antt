-- Phases of touches.
use Rattle.std.proofs.Common.{◌≡◌, ◌≢◌, ℕ, ◌+◌, Bool, true, false, List, [], ◌∷◌, ◌++◌, refl, sym, ap, subst, ◌∙◌, inl, inr, arith}
use Rattle.std.specs.Prelude.{◌⊎◌, ◌↔◌, All, Contains, Some, None, slice_get, if◌then◌else◌}
use Rattle.std.proofs.lemmas.Bool.{cases_eq}
use Rattle.std.proofs.lemmas.List.Elements.{All-weaker, All-contains, All-contains_itself, Contains-append_left, Contains-push, Contains-push_cases}
use Rattle.ot_model.specs.Cells.{conflicts, same_fold}
use Rattle.ot_model.specs.declared.expr.Cell.{Cell}
use Rattle.ot_model.specs.declared.stmt.Mode.{Mode}
use Rattle.ot_model.specs.declared.stmt.Mode.TheVariants.{Reads, Writes, Folds}
use Rattle.ot_model.specs.declared.stmt.Use.{Use}
use Rattle.ot_check.specs.Offences.{use_as}
use Rattle.ot_model.proofs.EqualLemmas.{fold-decides}
use Rattle.ot_check.proofs.Cited.{not_false, cells_equal}
use Rattle.ot_race.specs.Events.{Event}
use Rattle.ot_race.specs.Races.{IsUsed, IsRace}
use Rattle.ot_sets.specs.Sets.{has}
use Rattle.ot_race.specs.Standings.{IsUpTo}
use Rattle.ot_race.specs.Histories.{Phases, phases_at, AreHistories, AllBehind, RacesWith, Touched, TouchedAgainst, IsHistory, behind_of, HasThose, AreTips, IsUpToTip, IsTouched, touched_by}
use Rattle.ot_race.specs.declared.histories.Row.{Row}
use Rattle.ot_sets.specs.declared.numbers.Numbers.{Numbers}
use Rattle.ot_race.proofs.OrderLemmas.{some_is, up_trans}

-- modes that don't conflict are one
pub not_apart : (m n : Mode) → conflicts m n ≡ false → m ≡ n
not_apart Reads Reads h = refl
not_apart Reads Writes h = cc
not_apart Reads (Folds o) h = cc
not_apart Writes Reads h = cc
not_apart Writes Writes h = cc
not_apart Writes (Folds o) h = cc
not_apart (Folds o) Reads h = cc
not_apart (Folds o) Writes h = cc
not_apart (Folds o) (Folds p) h = ap Folds ((fold-decides o p).0 (not_false (same_fold o p) h))

pub true_or_false : (b : Bool) → (b ≡ true) ⊎ (b ≡ false)
true_or_false true = inl refl
true_or_false false = inr refl

by_case : (P : Bool → Type 0) → P true → P false → (b : Bool) → P b
by_case P t f true = t
by_case P t f false = f

false_true : {A : Type 0} (b : Bool) → b ≡ true → b ≡ false → A
false_true b h k = cc

-- what is in a set is up to event n
abbrev pub IsUpToIn : List Event → ℕ → Numbers → Type 0
IsUpToIn es n known = (i : ℕ) → (has known i ≡ true) ↔ IsUpTo es i n

-- histories of touches that are the same
pub moved : (es : List Event) (n m : ℕ) (front more : List Use) (c : Cell) (ph : Phases)
    → ((o : Mode) (i : ℕ) → Touched es n front c o i → Touched es m more c o i)
    → ((o : Mode) (i : ℕ) → Touched es m more c o i → Touched es n front c o i)
    → IsHistory es n front c ph → IsHistory es m more c ph
moved es n m front more c ph to from h = record {
  last = λ e l. to ph.mode e (h.last e l);
  before = λ e l. let b = h.before e l in record { other = b.other; touched = to b.other e b.touched; conflict = b.conflict };
  all = λ i o t. h.all i o (from o i t);
  some = λ i o t. h.some i o (from o i t);
  tips = h.tips;
  tips_before = h.tips_before;
}

-- what is up to each event that it is to be behind is behind all that it conflicts with
pub all_behind : (es : List Event) (n : ℕ) (front : List Use) (c : Cell) (mode : Mode) (ph : Phases) → IsHistory es n front c ph
    → ((e : ℕ) → Contains (behind_of ph mode) e → IsUpTo es e n) → (i : ℕ) → TouchedAgainst es n front c mode i → IsUpTo es i n
all_behind es n front c mode ph h behind i t =
    elim (true_or_false (conflicts ph.mode mode)) [
      | inl apart ↦
          let there = λ (e : ℕ) (l : Contains ph.last e).
          behind e (subst (λ b. Contains (if b then ph.last else ph.before) e) (sym apart) l) in
          elim (h.all i t.other t.touched) [
            | inl here ↦ there i here.0
            | inr earlier ↦ let e = h.some i t.other t.touched in up_trans es i e.0 n (earlier.each e.0 e.1) (there e.0 e.1)
          ]
      | inr alike ↦
          let there = λ (e : ℕ) (l : Contains ph.before e).
          behind e (subst (λ b. Contains (if b then ph.last else ph.before) e) (sym alike) l) in
          elim (h.all i t.other t.touched) [
            | inl here ↦ false_true (conflicts t.other mode) t.conflict (ap (λ m. conflicts m mode) here.1 ∙ alike)
            | inr earlier ↦ up_trans es i earlier.one n earlier.reached (there earlier.one earlier.there)
          ]
    ]

-- an event that it is to be behind conflicts with it
pub behind_against : (es : List Event) (n : ℕ) (front : List Use) (c : Cell) (mode : Mode) (ph : Phases) (e : ℕ) → IsHistory es n front c ph
    → Contains (behind_of ph mode) e → TouchedAgainst es n front c mode e
behind_against es n front c mode ph e h l =
    elim (true_or_false (conflicts ph.mode mode)) [
      | inl apart ↦
          let there : Contains ph.last e = subst (λ b. Contains (if b then ph.last else ph.before) e) apart l in
          record { other = ph.mode; touched = h.last e there; conflict = apart }
      | inr alike ↦
          let there : Contains ph.before e = subst (λ b. Contains (if b then ph.last else ph.before) e) alike l in
          let b = h.before e there in
          record { other = b.other; touched = b.touched; conflict = ap (λ m. conflicts b.other m) (sym (not_apart ph.mode mode alike)) ∙ b.conflict }
    ]

-- ---- one touch more

pub more_touched : (es : List Event) (n : ℕ) (front : List Use) (u : Use) (c : Cell) (o : Mode) (i : ℕ) → Touched es n front c o i
    → Touched es n (front ++ u ∷ []) c o i
more_touched es n front u c o i (inl t) = inl t
more_touched es n front u c o i (inr t) = inr (t.0, Contains-append_left front (u ∷ []) (use_as o c) t.1)

new_touched : (es : List Event) (n : ℕ) (front : List Use) (c : Cell) (o : Mode) → Touched es n (front ++ use_as o c ∷ []) c o n
new_touched es n front c o = inr (refl, Contains-push front (use_as o c))

pub touched_cases : (es : List Event) (n : ℕ) (front : List Use) (u : Use) (c : Cell) (o : Mode) (i : ℕ) → Touched es n (front ++ u ∷ []) c o i
    → Touched es n front c o i ⊎ ((i ≡ n) × (u ≡ use_as o c))
touched_cases es n front u c o i (inl t) = inl (inl t)
touched_cases es n front u c o i (inr t) =
    elim (Contains-push_cases front u (use_as o c) t.1) [
      | inl old ↦ inl (inr (t.0, old))
      | inr new ↦ inr (t.0, new)
    ]

pub only : (x e : ℕ) → Contains (x ∷ []) e → x ≡ e
only x e l = elim (Contains-push_cases [] x e l) [ inl none ↦ absurd (omega (arith, none.1)) | inr is ↦ is ]

mode_is : (a b : Mode) (c : Cell) → use_as a c ≡ use_as b c → b ≡ a
mode_is a b c h = sym (ap (λ u. u.mode) h)

-- a touch that conflicts with the last phase begins one
begun : (es : List Event) (n : ℕ) (front : List Use) (c : Cell) (mode : Mode) (ph : Phases) (tips : List ℕ) → IsHistory es n front c ph
    → conflicts ph.mode mode ≡ true → ((e : ℕ) → Contains ph.last e → IsUpTo es e n) → Contains tips n
    → IsHistory es n (front ++ use_as mode c ∷ []) c (record { mode = mode; last = n ∷ []; tips = tips; before = ph.last; tips_before = ph.tips })
begun es n front c mode ph tips h apart behind tip = record {
  last = λ e l. subst (λ x. Touched es n (front ++ use_as mode c ∷ []) c mode x) (only n e l) (new_touched es n front c mode);
  before = λ e l. record { other = ph.mode; touched = more_touched es n front (use_as mode c) c ph.mode e (h.last e l); conflict = apart };
  all = λ i o t. elim (touched_cases es n front (use_as mode c) c o i t) [
    | inl old ↦ inr (elim (h.all i o old) [
      | inl here ↦ record { each = λ e l. subst (λ x. IsUpTo es i x) (only n e l) (behind i here.0); one = i; there = here.0; reached = inl refl }
      | inr earlier ↦
          let s = h.some i o old in
          record {
            each = λ e l. subst (λ x. IsUpTo es i x) (only n e l) (up_trans es i s.0 n (earlier.each s.0 s.1) (behind s.0 s.1));
            one = s.0;
            there = s.1;
            reached = earlier.each s.0 s.1;
          }
    ])
    | inr new ↦ inl (subst (λ x. Contains (n ∷ []) x) (sym new.0) (Contains-push [] n), mode_is mode o c new.1)
  ];
  some = λ i o t. (n, Contains-push [] n);
  tips = λ i l. record { tip = n; there = tip; reached = inl (sym (only n i l)) };
  tips_before = h.tips;
}

-- one that doesn't goes on with it
continued : (es : List Event) (n : ℕ) (front : List Use) (c : Cell) (mode : Mode) (ph : Phases) (tips : List ℕ) (known : Numbers) → IsHistory es n front c ph
    → ph.mode ≡ mode → ((e : ℕ) → Contains ph.before e → IsUpTo es e n) → IsUpToIn es n known → AreTips ph.tips n known tips
    → IsHistory es n (front ++ use_as mode c ∷ []) c
    (record { mode = mode; last = ph.last ++ n ∷ []; tips = tips; before = ph.before; tips_before = ph.tips_before })
continued es n front c mode ph tips known h same behind up are = record {
  last = λ e l. elim (Contains-push_cases ph.last n e l) [
    | inl old ↦ subst (λ m. Touched es n (front ++ use_as mode c ∷ []) c m e) same (more_touched es n front (use_as mode c) c ph.mode e (h.last e old))
    | inr new ↦ subst (λ x. Touched es n (front ++ use_as mode c ∷ []) c mode x) new (new_touched es n front c mode)
  ];
  before = λ e l.
      let b = h.before e l in
      record { other = b.other; touched = more_touched es n front (use_as mode c) c b.other e b.touched; conflict = ap (conflicts b.other) (sym same) ∙ b.conflict };
  all = λ i o t. elim (touched_cases es n front (use_as mode c) c o i t) [
    | inl old ↦ elim (h.all i o old) [
      | inl here ↦ inl (Contains-append_left ph.last (n ∷ []) i here.0, here.1 ∙ same)
      | inr earlier ↦ inr (record {
        each = λ e l. elim (Contains-push_cases ph.last n e l) [
          | inl there ↦ earlier.each e there
          | inr new ↦ subst (λ x. IsUpTo es i x) new (up_trans es i earlier.one n earlier.reached (behind earlier.one earlier.there))
        ];
        one = earlier.one;
        there = earlier.there;
        reached = earlier.reached;
      })
    ]
    | inr new ↦ inl (subst (λ x. Contains (ph.last ++ n ∷ []) x) (sym new.0) (Contains-push ph.last n), mode_is mode o c new.1)
  ];
  some = λ i o t. (n, Contains-push ph.last n);
  tips = λ i l. elim (Contains-push_cases ph.last n i l) [
    | inl old ↦
        let t = h.tips i old in
        elim (are.others t.tip t.there) [
          | inl stays ↦ record { tip = t.tip; there = stays; reached = t.reached }
          | inr behind_it ↦ record { tip = n; there = are.it; reached = up_trans es i t.tip n t.reached ((up t.tip).0 behind_it) }
        ]
    | inr new ↦ record { tip = n; there = are.it; reached = inl (sym new) }
  ];
  tips_before = h.tips_before;
}

-- the phases after a touch that conflicts with the last, or doesn't
abbrev after : Phases → Mode → ℕ → List ℕ → Bool → Phases
after ph mode n tips b = record {
  mode = mode;
  last = if b then n ∷ [] else ph.last ++ n ∷ [];
  tips = tips;
  before = if b then ph.last else ph.before;
  tips_before = if b then ph.tips else ph.tips_before;
}

pub history_touched : (es : List Event) (n : ℕ) (front : List Use) (c : Cell) (mode : Mode) (ph new : Phases) (known : Numbers) → IsHistory es n front c ph
    → IsUpToIn es n known → ((e : ℕ) → Contains (behind_of ph mode) e → IsUpTo es e n) → IsTouched ph mode n known new
    → IsHistory es n (front ++ use_as mode c ∷ []) c new
history_touched es n front c mode ph new known h up behind is =
    subst (IsHistory es n (front ++ use_as mode c ∷ []) c) (sym is.0)
    (elim (true_or_false (conflicts ph.mode mode)) [
      | inl apart ↦
          subst (λ b. IsHistory es n (front ++ use_as mode c ∷ []) c (after ph mode n new.tips b)) (sym apart)
          (begun es n front c mode ph new.tips h apart (λ e l. behind e (subst (λ b. Contains (if b then ph.last else ph.before) e) (sym apart) l)) is.1.it)
      | inr alike ↦
          subst (λ b. IsHistory es n (front ++ use_as mode c ∷ []) c (after ph mode n new.tips b)) (sym alike)
          (continued es n front c mode ph new.tips known h (not_apart ph.mode mode alike)
          (λ e l. behind e (subst (λ b. Contains (if b then ph.last else ph.before) e) (sym alike) l)) up
          (subst (λ b. AreTips (if b then [] else ph.tips) n known new.tips) alike is.1))
    ])

-- ---- all cells

all_up : (es : List Event) (n : ℕ) (known : Numbers) (events : List ℕ) → IsUpToIn es n known → All (λ e. has known e ≡ true) events → (e : ℕ)
    → Contains events e → IsUpTo es e n
all_up es n known events up all e l = (up e).0 (All-contains (λ e. has known e ≡ true) events e all l)

other_touched : (es : List Event) (n : ℕ) (front : List Use) (u : Use) (c : Cell) → c ≢ u.cell → (o : Mode) (i : ℕ) → Touched es n (front ++ u ∷ []) c o i
    → Touched es n front c o i
other_touched es n front u c apart o i t =
    elim (touched_cases es n front u c o i t) [
      | inl old ↦ old
      | inr new ↦ absurd (apart (sym (ap (λ (v : Use). v.cell) new.1)))
    ]

pub histories_more : (es : List Event) (n : ℕ) (front : List Use) (u : Use) (rows new : List Row) (known : Numbers) → AreHistories es n front rows
    → IsUpToIn es n known → All (λ e. has known e ≡ true) (behind_of (phases_at rows u.cell) u.mode)
    → IsTouched (phases_at rows u.cell) u.mode n known (phases_at new u.cell) → ((c : Cell) → c ≢ u.cell → phases_at new c ≡ phases_at rows c)
    → AreHistories es n (front ++ u ∷ []) new
histories_more es n front u rows new known h up all here others = λ c.
    elim (cells_equal c u.cell) [
      | inl same ↦
          subst (λ d. IsHistory es n (front ++ u ∷ []) d (phases_at new d)) (sym same)
          (history_touched es n front u.cell u.mode (phases_at rows u.cell) (phases_at new u.cell) known (h u.cell) up
          (all_up es n known (behind_of (phases_at rows u.cell) u.mode) up all) here)
      | inr apart ↦
          subst (IsHistory es n (front ++ u ∷ []) c) (sym (others c apart))
          (moved es n n front (front ++ u ∷ []) c (phases_at rows c) (more_touched es n front u c) (other_touched es n front u c apart) (h c))
    ]

-- what has all tips of a phase has all of it
tips_had : (es : List Event) (n : ℕ) (tips events : List ℕ) (known : Numbers) → IsUpToIn es n known → ((i : ℕ) → Contains events i → IsUpToTip es tips i)
    → All (λ e. has known e ≡ true) tips → All (λ e. has known e ≡ true) events
tips_had es n tips events known up each all =
    All-weaker (Contains events) (λ i. has known i ≡ true)
    (λ i l. let t = each i l in (up i).1 (up_trans es i t.tip n t.reached (all_up es n known tips up all t.tip t.there))) events (All-contains_itself events)

-- where the last phase goes on, each of its events is behind all of the phase before
before_had : (es : List Event) (n : ℕ) (front : List Use) (u : Use) (rows : List Row) (known : Numbers) → AreHistories es n front rows
    → IsUpToIn es n known → conflicts (phases_at rows u.cell).mode u.mode ≡ false → (e : ℕ) → Contains (phases_at rows u.cell).last e → has known e ≡ true
    → All (λ b. has known b ≡ true) (phases_at rows u.cell).before
before_had es n front u rows known h up alike e l there =
    let ph = phases_at rows u.cell in
    All-weaker (Contains ph.before) (λ b. has known b ≡ true)
    (λ b k.
    let t = (h u.cell).before b k in
    elim ((h u.cell).all b t.other t.touched) [
      | inl here ↦
          false_true (conflicts t.other ph.mode) t.conflict (ap (λ m. conflicts m ph.mode) here.1 ∙ ap (conflicts ph.mode) (not_apart ph.mode u.mode alike) ∙ alike)
      | inr earlier ↦ (up b).1 (up_trans es b e n (earlier.each e l) ((up e).0 there))
    ])
    ph.before (All-contains_itself ph.before)

pub those_had : (es : List Event) (n : ℕ) (front : List Use) (u : Use) (rows : List Row) (known : Numbers) → AreHistories es n front rows
    → IsUpToIn es n known → HasThose (phases_at rows u.cell) u.mode known
those_had es n front u rows known h up =
    let ph = phases_at rows u.cell in
    record {
      by_tips = tips_had es n (if conflicts ph.mode u.mode then ph.tips else ph.tips_before) (behind_of ph u.mode) known up
          (by_case (λ b. (i : ℕ) → Contains (if b then ph.last else ph.before) i → IsUpToTip es (if b then ph.tips else ph.tips_before) i)
          (h u.cell).tips (h u.cell).tips_before (conflicts ph.mode u.mode));
      by_one = before_had es n front u rows known h up;
    }

pub behind_more : (es : List Event) (n : ℕ) (front : List Use) (u : Use) (rows : List Row) (known : Numbers) → AreHistories es n front rows
    → IsUpToIn es n known → All (λ e. has known e ≡ true) (behind_of (phases_at rows u.cell) u.mode) → AllBehind es n known u
behind_more es n front u rows known h up all = λ i mode l used against.
    (up i).1 (all_behind es n front u.cell u.mode (phases_at rows u.cell) (h u.cell) (all_up es n known (behind_of (phases_at rows u.cell) u.mode) up all) i
    (record { other = mode; touched = inl (l, used); conflict = against }))

-- ---- races with an event

pub race_found : (es : List Event) (n e : ℕ) (front : List Use) (u : Use) (rows : List Row) (known : Numbers) → AreHistories es n front rows
    → IsUpToIn es n known → Contains (behind_of (phases_at rows u.cell) u.mode) e → has known e ≡ false → IsUsed es u.cell u.mode n → IsRace es u.cell e n
race_found es n e front u rows known h up l none used =
    let t = behind_against es n front u.cell u.mode (phases_at rows u.cell) e (h u.cell) l in
    elim t.touched [
      | inl old ↦ record {
        order = old.0;
        one = t.other;
        other = u.mode;
        first = old.1;
        second = used;
        conflict = t.conflict;
        unordered = λ b. false_true (has known e) ((up e).1 (inr b)) none;
      }
      | inr own ↦ false_true (has known e) ((up e).1 (inl own.0)) none
    ]

pub same_event : (es : List Event) (n : ℕ) (c : Cell) (mode : Mode) (e : Event) → slice_get es n ≡ Some e → IsUsed es c mode n → Contains e.uses (use_as mode c)
same_event es n c mode e at used = subst (λ (x : Event). Contains x.uses (use_as mode c)) (some_is used.it e (sym used.there ∙ at)) used.uses

pub no_race : (es : List Event) (n : ℕ) (e : Event) (known : Numbers) → slice_get es n ≡ Some e → IsUpToIn es n known → All (AllBehind es n known) e.uses
    → RacesWith es n None
no_race es n e known at up all = λ c i r.
    let behind = All-contains (AllBehind es n known) e.uses (use_as r.other c) all (same_event es n c r.other e at r.second) in
    elim ((up i).0 (behind i r.one r.order r.first r.conflict)) [
      | inl same ↦ absurd (omega (arith, same, r.order))
      | inr before ↦ r.unordered before
    ]

-- ---- from event to event

pub next_histories : (es : List Event) (n : ℕ) (e : Event) (rows : List Row) → slice_get es n ≡ Some e → AreHistories es n e.uses rows
    → AreHistories es (n + 1) [] rows
next_histories es n e rows at h = λ c.
    moved es n (n + 1) e.uses [] c (phases_at rows c)
    (λ o i t. elim t [
      | inl old ↦ inl (omega (arith, old.0), old.1)
      | inr new ↦
          let here : slice_get es i ≡ Some e = ap (slice_get es) new.0 ∙ at in
          inl (omega (arith, new.0), record { it = e; there = here; uses = new.1 })
    ])
    (λ o i t. elim t [
      | inl old ↦ elim (cases_eq i n) [
        | inl same ↦ inr (same, same_event es n c o e at (subst (IsUsed es c o) same old.1))
        | inr apart ↦ inl (omega (arith, old.0, apart), old.1)
      ]
      | inr none ↦ absurd (omega (arith, none.1.1))
    ])
    (h c)
