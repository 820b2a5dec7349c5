-- How a task goes over one statement.
use Rattle.std.proofs.Common.{◌≡◌, ℕ, ◌+◌, ◌<◌, ◌≤◌, Bool, true, false, not, ◌&&◌, List, ◌⊎◌, inl, inr, refl, sym, subst, ◌∙◌, true≢false, arith}
use Rattle.std.specs.Prelude.{Option, Some}
use Rattle.std.proofs.lemmas.Bool.{cases_lt}
use Rattle.ot_model.specs.Tree.{Body, Task, Wait, Group}
use Rattle.ot_model.specs.Cells.{conflicts, depends_on}
use Rattle.ot_model.specs.declared.expr.Cell.{Cell}
use Rattle.ot_model.specs.declared.fold.Fold.{Fold as Operation}
use Rattle.ot_model.specs.declared.stmt.Mode.{Mode}
use Rattle.ot_model.specs.declared.stmt.Use.{Use}
use Rattle.ot_check.specs.Offences.{use_as, Declared, Openings, allows, awaits}
use Rattle.ot_check.specs.Discipline.{Children, anyone, nobody, nothing_open, behind, behind_one, through, with_group}
use Rattle.ot_race.specs.Events.{Deed, Event, Begins, Awaits, Leaves}
use Rattle.ot_race.specs.Order.{IsBy, Does, ByCreation, ByDependence, ByWait, ByEnd, IsBefore, Once}
use Rattle.ot_race.specs.Races.{IsUsed}
use Rattle.ot_race.specs.Standings.{IsKnownTo}
use Rattle.ot_race.proofs.OrderLemmas.{up_leads, before_trans}
use Rattle.ot_check.proofs.Cited.{and_true, true_not, true_or, or_right, child_fits}
use Rattle.ot_law_raceless.proofs.FitLemmas.{Setting, Fits, IsAmong, IsFree, siblings_agree}
use Rattle.ot_law_raceless.proofs.KnownLemmas.{IsHeld, AreGathered, Goes, known_later, known_before, held_later}

by_of : (es : List Event) (me n : ℕ) (deed : Deed) → Does es me deed n → IsBy es me n
by_of es me n deed d = record { it = d.it; there = d.there; done_by = d.done_by }

-- an event of the task knows what is before it
knows_before : (es : List Event) (me n m i : ℕ) → n < m → IsBy es me n → IsBefore es i n → IsKnownTo es m me i
knows_before es me n m i less done before = record { own = n; early = less; done = done; reached = inr before }

pub knows_itself : (es : List Event) (me n m : ℕ) → n < m → IsBy es me n → IsKnownTo es m me n
knows_itself es me n m less done = record { own = n; early = less; done = done; reached = inl refl }

-- ---- a statement that uses cells

-- what the event uses the body declares, and no child that may be unawaited is let use it in conflict
abbrev pub AreFree : List Event → Declared → Openings → Children → ℕ → Type 0
AreFree es own opened children n = (c : Cell) (mode : Mode) → IsUsed es c mode n → IsFree own opened children c mode × (allows own (use_as mode c) ≡ true)

pub goes_touch : (es : List Event) (me : ℕ) (own : Declared) (opened : Openings) (children : Children) (from n : ℕ)
    → AreGathered es me own opened children from n → IsBy es me n → AreFree es own opened children n → Goes es me own opened children from n (n + 1)
goes_touch es me own opened children from n gathered done free = record {
  ordered = λ i j low less above below c one other first second conflict.
      let same : j ≡ n = omega (arith, above, below) in
      let at_n = subst (IsUsed es c other) same second in
      subst (IsBefore es i) (sym same)
      (elim (gathered i low (omega (arith, less, same))) [
        | inl known ↦ known_before es me n i n (omega arith) done known
        | inr held ↦ absurd ((free c other at_n).0 held.uses held.among held.fits one (held.covered c one first) conflict)
      ]);
  gathered = λ i low below. elim (cases_lt i n) [
    | inl early ↦ elim (gathered i low early) [
      | inl known ↦ inl (known_later es me n (n + 1) i (omega arith) known)
      | inr held ↦ inr (held_later es me own opened children children n (n + 1) i (omega arith) held held.among)
    ]
    | inr late ↦
        let same : n ≡ i = omega (arith, late, below) in
        inl (subst (IsKnownTo es (n + 1) me) same (knows_itself es me n (n + 1) (omega arith) done))
  ];
  allowed = λ i above below c mode used.
      let same : i ≡ n = omega (arith, above, below) in
      (free c mode (subst (IsUsed es c mode) same used)).1;
}

-- ---- a wait

-- event j is a wait of the task that awaits a child with this declaration
pub record IsWait (es : List Event) (me : ℕ) (uses : List Use) (n m : ℕ) : Type 0 where
  pub at : ℕ
  pub wait : Option (List Use)
  pub late : n ≤ at
  pub early : at < m
  pub does : Does es me (Awaits wait) at
  pub awaited : awaits wait uses ≡ true

wait_known : (es : List Event) (me : ℕ) (own : Declared) (opened : Openings) (children : Children) (n m i : ℕ) → (h : IsHeld es me own opened children n i)
    → IsWait es me h.uses n m → IsKnownTo es m me i
wait_known es me own opened children n m i h w =
    let begun = h.early in
    let ended = h.late in
    let late = w.late in
    knows_before es me w.at m i w.early (by_of es me w.at (Awaits w.wait) w.does)
    (up_leads es i h.last w.at h.reached
    (ByWait me h.child h.begin h.last w.at h.uses w.wait h.does (omega (arith, begun, late)) w.does w.awaited h.done (omega (arith, ended, late))))

abbrev pub UsesNothing : List Event → ℕ → Type 0
UsesNothing es n = (c : Cell) (mode : Mode) → IsUsed es c mode n → ⊥

pub goes_wait : (es : List Event) (me : ℕ) (own : Declared) (opened : Openings) (children : Children) (w : Option (List Use)) (from n : ℕ)
    → AreGathered es me own opened children from n → Does es me (Awaits w) n → UsesNothing es n
    → Goes es me own opened (behind_one children (Wait w)) from n (n + 1)
goes_wait es me own opened children w from n gathered does nothing = record {
  ordered = λ i j low less above below c one other first second conflict.
      let same : j ≡ n = omega (arith, above, below) in
      absurd (nothing c other (subst (IsUsed es c other) same second));
  gathered = λ i low below. elim (cases_lt i n) [
    | inl early ↦ elim (gathered i low early) [
      | inl known ↦ inl (known_later es me n (n + 1) i (omega arith) known)
      | inr held ↦ by i held (awaits w held.uses) refl
    ]
    | inr late ↦
        let same : n ≡ i = omega (arith, late, below) in
        inl (subst (IsKnownTo es (n + 1) me) same (knows_itself es me n (n + 1) (omega arith) (by_of es me n (Awaits w) does)))
  ];
  allowed = λ i above below c mode used.
      let same : i ≡ n = omega (arith, above, below) in
      absurd (nothing c mode (subst (IsUsed es c mode) same used));
}
  where
    by : (i : ℕ) (h : IsHeld es me own opened children n i) (b : Bool) → awaits w h.uses ≡ b
        → IsKnownTo es (n + 1) me i ⊎ IsHeld es me own opened (behind_one children (Wait w)) (n + 1) i
    by i h true is =
        inl (wait_known es me own opened children n (n + 1) i h
        (record { at = n; wait = w; late = omega arith; early = omega arith; does = does; awaited = is }))
    by i h false is =
        inr (held_later es me own opened children (behind_one children (Wait w)) n (n + 1) i (omega arith) h
        (λ test passes. h.among (λ d. test d && not (awaits w d)) (and_true (test h.uses) (not (awaits w h.uses)) passes (true_not (awaits w h.uses) is))))

-- ---- a task

-- the task's children behind it, one of which is new
among_first : (children : Children) (d : List Use) (b : Body) (uses : List Use) → IsAmong children uses → IsAmong (behind_one children (Task d b)) uses
among_first children d b uses among = λ test passes. true_or (children test) (test d) (among test passes)

among_new : (children : Children) (d : List Use) (b : Body) → IsAmong (behind_one children (Task d b)) d
among_new children d b = λ test passes. or_right (children test) (test d) passes

-- event n is by the parent, or before one of its events, or is held: so it is before each event of the child, where they conflict
before_child : (es : List Event) (me child : ℕ) (own : Declared) (opened : Openings) (children : Children) (d : List Use) (n i : ℕ) → Setting own opened
    → Fits own opened d → Does es child (Begins me d) n → IsKnownTo es n me i ⊎ IsHeld es me own opened children n i
    → (c : Cell) (one other : Mode) → IsUsed es c one i → allows (Some d) (use_as other c) ≡ true → conflicts one other ≡ true → IsBefore es i n
before_child es me child own opened children d n i s fits does (inl known) c one other first allowed conflict =
    up_leads es i known.own n known.reached (ByCreation me child known.own n d known.done known.early does)
before_child es me child own opened children d n i s fits does (inr held) c one other first allowed conflict = by (depends_on held.uses d) refl
  where
    by : (b : Bool) → depends_on held.uses d ≡ b → IsBefore es i n
    by true is =
        up_leads es i held.last n held.reached
        (ByDependence me held.child child held.begin held.last n held.uses d held.does held.early does is held.done held.late)
    by false is = absurd (siblings_agree own opened s held.uses d held.fits fits is c one other (held.covered c one first) allowed conflict)

-- what the child's events are to its parent
held_by_child : (es : List Event) (me child : ℕ) (own : Declared) (opened : Openings) (children : Children) (d : List Use) (b : Body) (n m i : ℕ)
    → Fits own opened d → behind nobody b anyone ≡ false → Does es child (Begins me d) n → n < m
    → IsKnownTo es m child i ⊎ IsHeld es child (Some d) nothing_open (behind nobody b) m i
    → ((c : Cell) (mode : Mode) → IsUsed es c mode i → allows (Some d) (use_as mode c) ≡ true)
    → IsHeld es me own opened (behind_one children (Task d b)) m i
held_by_child es me child own opened children d b n m i fits ends does less (inl known) covered = record {
  child = child;
  begin = n;
  last = known.own;
  uses = d;
  early = less;
  does = does;
  late = known.early;
  done = known.done;
  reached = known.reached;
  among = among_new children d b;
  fits = fits;
  covered = covered;
}
held_by_child es me child own opened children d b n m i fits ends does less (inr held) covered = absurd (true≢false (sym (held.among anyone refl) ∙ ends))

pub goes_task : (es : List Event) (me child : ℕ) (own : Declared) (opened : Openings) (children : Children) (d : List Use) (b : Body) (from n m : ℕ)
    → Setting own opened → Fits own opened d → behind nobody b anyone ≡ false → AreGathered es me own opened children from n → Does es child (Begins me d) n
    → UsesNothing es n → ((j : ℕ) → n < j → j < m → IsBefore es n j) → n < m → Goes es child (Some d) nothing_open (behind nobody b) n (n + 1) m
    → Goes es me own opened (behind_one children (Task d b)) from n m
goes_task es me child own opened children d b from n m s fits ends gathered does nothing begun some inner = record {
  ordered = λ i j low less above below c one other first second conflict. elim (cases_lt n j) [
    | inl behind_it ↦
        let behind_n : n + 1 ≤ j = omega (arith, behind_it) in
        elim (cases_lt i n) [
          | inl early ↦
              before_trans es i n j
              (before_child es me child own opened children d n i s fits does (gathered i low early) c one other first (inner.allowed j behind_n below c other second) conflict)
              (begun j behind_it below)
          | inr late ↦ inner.ordered i j late less behind_n below c one other first second conflict
        ]
    | inr at_it ↦
        let same : j ≡ n = omega (arith, above, at_it) in
        absurd (nothing c other (subst (IsUsed es c other) same second))
  ];
  gathered = λ i low below. elim (cases_lt i n) [
    | inl early ↦ elim (gathered i low early) [
      | inl known ↦ inl (known_later es me n m i (omega (arith, some)) known)
      | inr held ↦
          inr (held_later es me own opened children (behind_one children (Task d b)) n m i (omega (arith, some)) held (among_first children d b held.uses held.among))
    ]
    | inr late ↦ inr (held_by_child es me child own opened children d b n m i fits ends does some (inner.gathered i late below) (within i late below))
  ];
  allowed = λ i above below c mode used. child_fits own opened d s.groups fits.within fits.fitting (use_as mode c) (within i above below c mode used);
}
  where
    within : (i : ℕ) → n ≤ i → i < m → (c : Cell) (mode : Mode) → IsUsed es c mode i → allows (Some d) (use_as mode c) ≡ true
    within i above below c mode used = elim (cases_lt n i) [
      | inl behind_it ↦ inner.allowed i (omega (arith, behind_it)) below c mode used
      | inr at_it ↦
          let same : i ≡ n = omega (arith, above, at_it) in
          absurd (nothing c mode (subst (IsUsed es c mode) same used))
    ]

-- ---- a group

pub goes_group : (es : List Event) (me : ℕ) (own : Declared) (opened : Openings) (children : Children) (o : Operation) (cells : List Cell) (b : Body)
    (from n k count : ℕ) → AreGathered es me own opened children from n → n ≤ k → k ≤ n + count
    → Goes es me own (with_group opened o cells) (behind children b) from n k → Does es me (Leaves count) k → AreFree es own opened children k
    → ((uses : List Use) → through uses b ≡ false → IsWait es me uses n k)
    → Goes es me own opened (behind_one children (Group o cells b)) from n (k + 1)
goes_group es me own opened children o cells b from n k count gathered up near inner does free waits = record {
  ordered = λ i j low less above below c one other first second conflict. elim (cases_lt j k) [
    | inl early ↦ inner.ordered i j low less above early c one other first second conflict
    | inr late ↦
        let same : j ≡ k = omega (arith, late, below) in
        subst (IsBefore es i) (sym same) (ends i low (omega (arith, less, same)) c one other first (subst (IsUsed es c other) same second) conflict)
  ];
  gathered = λ i low below. elim (cases_lt i n) [
    | inl early ↦ elim (gathered i low early) [
      | inl known ↦ inl (known_later es me n (k + 1) i (omega (arith, up)) known)
      | inr held ↦ by i held (through held.uses b) refl
    ]
    | inr late ↦ elim (cases_lt i k) [
      | inl inside ↦ inl (knows_before es me k (k + 1) i (omega arith) done (Once i k (ByEnd me count i k does inside (omega (arith, near, late)))))
      | inr at_it ↦
          let same : k ≡ i = omega (arith, at_it, below) in
          inl (subst (IsKnownTo es (k + 1) me) same (knows_itself es me k (k + 1) (omega arith) done))
    ]
  ];
  allowed = λ i above below c mode used. elim (cases_lt i k) [
    | inl early ↦ inner.allowed i above early c mode used
    | inr late ↦
        let same : i ≡ k = omega (arith, late, below) in
        (free c mode (subst (IsUsed es c mode) same used)).1
  ];
}
  where
    done : IsBy es me k
    done = by_of es me k (Leaves count) does

    ends : (i : ℕ) → from ≤ i → i < k → (c : Cell) (one other : Mode) → IsUsed es c one i → IsUsed es c other k → conflicts one other ≡ true → IsBefore es i k
    ends i low below c one other first second conflict = elim (cases_lt i n) [
      | inl early ↦ elim (gathered i low early) [
        | inl known ↦ known_before es me n i k up done known
        | inr held ↦ absurd ((free c other second).0 held.uses held.among held.fits one (held.covered c one first) conflict)
      ]
      | inr late ↦ Once i k (ByEnd me count i k does below (omega (arith, near, late)))
    ]

    by : (i : ℕ) (h : IsHeld es me own opened children n i) (b2 : Bool) → through h.uses b ≡ b2
        → IsKnownTo es (k + 1) me i ⊎ IsHeld es me own opened (behind_one children (Group o cells b)) (k + 1) i
    by i h true is =
        inr (held_later es me own opened children (behind_one children (Group o cells b)) n (k + 1) i (omega (arith, up)) h
        (λ test passes. h.among (λ d. test d && through d b) (and_true (test h.uses) (through h.uses b) passes is)))
    by i h false is = inl (known_later es me k (k + 1) i (omega arith) (wait_known es me own opened children n k i h (waits h.uses is)))
