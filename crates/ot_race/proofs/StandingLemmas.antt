-- What is kept of tasks, and what is before an event.
use Rattle.std.proofs.Common.{◌≡◌, ◌≢◌, ℕ, zero, suc, ◌+◌, ◌-◌, ◌<◌, ◌≤◌, true, false, List, [], ◌∷◌, length, set, get_or, refl, sym, ap, subst, ◌∙◌, inl, inr, arith}
use Rattle.std.specs.Prelude.{◌⊎◌, ◌↔◌, Bool, ◌||◌, ◌==◌, Option, Some, None, slice_get}
use Rattle.std.proofs.lemmas.Bool.{cases_eq, cases_lt, eqb-true}
use Rattle.ot_model.specs.declared.stmt.Use.{Use}
use Rattle.ot_check.specs.Offences.{awaits}
use Rattle.ot_check.proofs.Cited.{or_true, true_or, or_right, eq_itself}
use Rattle.ot_race.specs.Events.{Deed, Touches, Begins, Awaits, Leaves, Event}
use Rattle.ot_race.specs.Order.{IsBy, Does, Leads, InTurn, ByCreation, ByDependence, ByWait, ByEnd, IsBefore, Once}
use Rattle.ot_sets.specs.Sets.{bit_in, has}
use Rattle.ot_race.specs.Standings.{Kept, kept_of, nothing, kept_at, knows, last_of, pending_of, IsUpTo, IsLastFrom, AreKept, IsWhole, AreNested, IsOfListed, IsOfChild, IsInside}
use Rattle.ot_sets.specs.declared.numbers.Numbers.{Numbers}
use Rattle.ot_race.specs.declared.standing.Standing.{Standing}
use Rattle.ot_race.proofs.PlaceLemmas.{read_at, set_here, set_other, place_read}
use Rattle.ot_race.proofs.OrderLemmas.{some_is, by_is, is_by, is_deed, up_trans, up_leads, last_step, FromChild, FromDeed, leads_from, leads_less}

-- ---- sets

-- an event that is up to one of the task is known
pub known_by : (es : List Event) (n : ℕ) (tasks : List Standing) (t i k : ℕ) → AreKept es n tasks → k < n → IsBy es t k → IsUpTo es i k → knows tasks t i ≡ true
known_by es n tasks t i k s l b u = (s.known t i).1 (record { own = k; early = l; done = b; reached = u })

-- of two events of one task the earlier is up to the later
pub in_turn : (es : List Event) (t k m : ℕ) → IsBy es t k → IsBy es t m → k ≤ m → IsUpTo es k m
in_turn es t k m a b l =
    elim (cases_eq k m) [
      | inl same ↦ inl same
      | inr apart ↦ inr (Once k m (InTurn t k m a (omega arith) b))
    ]

-- the sets of tasks have all of a task whose last event they have
pub nested : (es : List Event) (n : ℕ) (tasks : List Standing) → AreKept es n tasks → AreNested tasks
nested es n tasks s t u i last known =
    let k = (s.known u i).0 known in
    let m = s.lasts u k.own k.early k.done in
    let j = (s.known t (last_of tasks u)).0 last in
    known_by es n tasks t i j.own s j.early j.done
    (up_trans es i k.own j.own k.reached
    (up_trans es k.own (last_of tasks u) j.own (in_turn es u k.own (last_of tasks u) k.done m.done m.behind) j.reached))

-- a set that has what a task knows more
pub whole_join : (tasks : List Standing) (known new : Numbers) (t : ℕ) → AreNested tasks → IsWhole tasks known
    → ((i : ℕ) → has new i ≡ (has known i || knows tasks t i)) → IsWhole tasks new
whole_join tasks known new t nest whole joined u i last k =
    elim (or_true (has known (last_of tasks u)) (knows tasks t (last_of tasks u)) (sym (joined (last_of tasks u)) ∙ last)) [
      | inl old ↦ joined i ∙ true_or (has known i) (knows tasks t i) (whole u i old k)
      | inr more ↦ joined i ∙ or_right (has known i) (knows tasks t i) (nest t u i more k)
    ]

none_some : {A : Type 0} (x : A) → None ≡ Some x → ⊥
none_some x h = cc

-- what a task knows that stands at its place
pub known_at : (tasks : List Standing) (t i : ℕ) (st : Standing) → slice_get tasks t ≡ Some st → has st.known i ≡ knows tasks t i
known_at tasks t i st at = ap (λ (kept : Kept). bit_in kept.known i) (sym (read_at kept_of tasks t st nothing at))

pub pending_at : (tasks : List Standing) (t : ℕ) (st : Standing) → slice_get tasks t ≡ Some st → pending_of tasks t ≡ st.pending.items
pending_at tasks t st at = ap (λ (kept : Kept). kept.pending) (read_at kept_of tasks t st nothing at)

-- one task more, looked at from the last
pub listed_step : (tasks : List Standing) (list : List ℕ) (i at old new task : ℕ) {A B C : Type 0} → slice_get list at ≡ Some task → old ≡ at + 1 → new ≡ at
    → (B ↔ (A ⊎ IsOfListed tasks list old i)) → (C ↔ (B ⊎ (knows tasks task i ≡ true))) → C ↔ (A ⊎ IsOfListed tasks list new i)
listed_step tasks list i at old new task there is-old is-new b c = (
  λ h. elim (c.0 h) [
    | inl past ↦ elim (b.0 past) [
      | inl a ↦ inl a
      | inr o ↦ inr (record { place = o.place; task = o.task; late = omega (arith, o.late, is-old, is-new); there = o.there; known = o.known })
    ]
    | inr here ↦ inr (record { place = at; task = task; late = omega (arith, is-new); there = there; known = here })
  ],
  λ h. elim h [
    | inl a ↦ c.1 (inl (b.1 (inl a)))
    | inr o ↦ elim (cases_eq o.place at) [
      | inl same ↦
          let is : o.task ≡ task = some_is o.task task (sym o.there ∙ ap (λ k. slice_get list k) same ∙ there) in
          c.1 (inr (ap (λ t. knows tasks t i) (sym is) ∙ o.known))
      | inr apart ↦
          let late : old ≤ o.place = omega (arith, o.late, is-old, is-new, apart) in
          c.1 (inl (b.1 (inr (record { place = o.place; task = o.task; late = late; there = o.there; known = o.known }))))
    ]
  ],
)

-- one event more
pub inside_step : (es : List Event) (tasks : List Standing) (from at i task : ℕ) {A B C : Type 0} → from ≤ at → IsBy es task at
    → (B ↔ (A ⊎ IsInside es tasks from at i)) → (C ↔ (B ⊎ (knows tasks task i ≡ true))) → C ↔ (A ⊎ IsInside es tasks from (at + 1) i)
inside_step es tasks from at i task l by b c = (
  λ h. elim (c.0 h) [
    | inl past ↦ elim (b.0 past) [
      | inl a ↦ inl a
      | inr o ↦ inr (record { place = o.place; task = o.task; late = o.late; early = omega (arith, o.early); done = o.done; known = o.known })
    ]
    | inr here ↦ inr (record { place = at; task = task; late = l; early = omega arith; done = by; known = here })
  ],
  λ h. elim h [
    | inl a ↦ c.1 (inl (b.1 (inl a)))
    | inr o ↦ elim (cases_eq o.place at) [
      | inl same ↦
          let other : IsBy es o.task at = subst (IsBy es o.task) same o.done in
          let is : task ≡ o.task = sym by.done_by ∙ by_is es o.task at by.it by.there other in
          c.1 (inr (ap (λ t. knows tasks t i) is ∙ o.known))
      | inr apart ↦
          let early : o.place < at = omega (arith, o.early, apart) in
          c.1 (inl (b.1 (inr (record { place = o.place; task = o.task; late = o.late; early = early; done = o.done; known = o.known }))))
    ]
  ],
)

-- ---- what leads to an event

-- what is before an event of this task by what the event is, as it is kept
abbrev pub ByDeed : List Event → List Standing → ℕ → ℕ → Deed → ℕ → Type 0
ByDeed es tasks n me Touches i = ⊥
ByDeed es tasks n me (Begins p d) i = (knows tasks p i ≡ true) ⊎ IsOfChild es n tasks p (Some d) i
ByDeed es tasks n me (Awaits w) i = IsOfChild es n tasks me w i
ByDeed es tasks n me (Leaves count) i = IsInside es tasks (n - count) n i

of_child : (es : List Event) (n p k i : ℕ) (w : Option (List Use)) (tasks : List Standing) → AreKept es n tasks → k < n → IsUpTo es i k → FromChild es n p w k
    → IsOfChild es n tasks p w i
of_child es n p k i w tasks s l u c = record {
  child = c.child;
  begin = c.begin;
  uses = c.uses;
  early = c.early;
  does = c.does;
  awaited = c.awaited;
  known = known_by es n tasks c.child i k s l c.done u;
}

-- an event that stands before one that is there is there too
there_before : (es : List Event) (n k : ℕ) (e : Event) → slice_get es n ≡ Some e → k < n → (x : Event) × (slice_get es k ≡ Some x)
there_before [] n k e at l = absurd (none_some e at)
there_before (y ∷ es) zero k e at l = absurd (omega (arith, l))
there_before (y ∷ es) (suc n) zero e at l = (y, refl)
there_before (y ∷ es) (suc n) (suc k) e at l = there_before es n k e at (omega (arith, l))

by_deed : (es : List Event) (n k i : ℕ) (me : ℕ) (d : Deed) (e : Event) (tasks : List Standing) → slice_get es n ≡ Some e → AreKept es n tasks → k < n
    → IsUpTo es i k → FromDeed es n me d k → ByDeed es tasks n me d i
by_deed es n k i me Touches e tasks at s l u f = f
by_deed es n k i me (Begins p d) e tasks at s l u (inl by) = inl (known_by es n tasks p i k s l by u)
by_deed es n k i me (Begins p d) e tasks at s l u (inr c) = inr (of_child es n p k i (Some d) tasks s l u c)
by_deed es n k i me (Awaits w) e tasks at s l u c = of_child es n me k i w tasks s l u c
by_deed es n k i me (Leaves count) e tasks at s l u f =
    let x = there_before es n k e at l in
    let by = is_by es k x.0 x.1 in
    record { place = k; task = x.0.task; late = omega arith; early = l; done = by; known = known_by es n tasks x.0.task i k s l by u }

-- what is before an event is known to its task, or by what the event is
pub before_known : (es : List Event) (n i : ℕ) (e : Event) (tasks : List Standing) → slice_get es n ≡ Some e → AreKept es n tasks → IsBefore es i n
    → (knows tasks e.task i ≡ true) ⊎ ByDeed es tasks n e.task e.deed i
before_known es n i e tasks at s b =
    let h = last_step es i n b in
    let l : h.via < n = leads_less es h.via n h.leads in
    elim (leads_from es n h.via e at h.leads) [
      | inl by ↦ inl (known_by es n tasks e.task i h.via s l by h.reached)
      | inr f ↦ inr (by_deed es n h.via i e.task e.deed e tasks at s l h.reached f)
    ]

of_child_before : (es : List Event) (n i : ℕ) (p : ℕ) (w : Option (List Use)) (tasks : List Standing) → AreKept es n tasks → IsOfChild es n tasks p w i
    → ((c h k : ℕ) (uses : List Use) → Does es c (Begins p uses) h → h < n → awaits w uses ≡ true → IsBy es c k → k < n → Leads es k n) → IsBefore es i n
of_child_before es n i p w tasks s c leads =
    let k = (s.known c.child i).0 c.known in
    up_leads es i k.own n k.reached (leads c.child c.begin k.own c.uses c.does c.early c.awaited k.done k.early)

inside_before : (es : List Event) (n i count : ℕ) (me : ℕ) (tasks : List Standing) → AreKept es n tasks → Does es me (Leaves count) n
    → IsInside es tasks (n - count) n i → IsBefore es i n
inside_before es n i count me tasks s does x =
    let k = (s.known x.task i).0 x.known in
    elim (cases_lt x.place k.own) [
      | inl behind ↦
          let late : n ≤ k.own + count = omega (arith, x.late, behind) in
          up_leads es i k.own n k.reached (ByEnd me count k.own n does k.early late)
      | inr early ↦
          let late : n ≤ x.place + count = omega (arith, x.late) in
          up_leads es i x.place n (up_trans es i k.own x.place k.reached (in_turn es x.task k.own x.place k.done x.done early))
          (ByEnd me count x.place n does x.early late)
    ]

pub deed_before : (es : List Event) (n i : ℕ) (e : Event) (d : Deed) (tasks : List Standing) → slice_get es n ≡ Some e → e.deed ≡ d → AreKept es n tasks
    → ByDeed es tasks n e.task d i → IsBefore es i n
deed_before es n i e Touches tasks at is s b = absurd b
deed_before es n i e (Begins p d) tasks at is s (inl known) =
    let k = (s.known p i).0 known in
    up_leads es i k.own n k.reached (ByCreation p e.task k.own n d k.done k.early (is_deed es n e (Begins p d) at is))
deed_before es n i e (Begins p d) tasks at is s (inr c) =
    of_child_before es n i p (Some d) tasks s c (λ t h k uses does l aw by m. ByDependence p t e.task h k n uses d does l (is_deed es n e (Begins p d) at is) aw by m)
deed_before es n i e (Awaits w) tasks at is s c =
    of_child_before es n i e.task w tasks s c (λ t h k uses does l aw by m. ByWait e.task t h k n uses w does l (is_deed es n e (Awaits w) at is) aw by m)
deed_before es n i e (Leaves count) tasks at is s x = inside_before es n i count e.task tasks s (is_deed es n e (Leaves count) at is) x

pub known_before : (es : List Event) (n i : ℕ) (e : Event) (tasks : List Standing) → slice_get es n ≡ Some e → AreKept es n tasks
    → (knows tasks e.task i ≡ true) ⊎ ByDeed es tasks n e.task e.deed i → IsBefore es i n
known_before es n i e tasks at s (inl known) =
    let k = (s.known e.task i).0 known in
    up_leads es i k.own n k.reached (InTurn e.task k.own n k.done k.early (is_by es n e at))
known_before es n i e tasks at s (inr b) = deed_before es n i e e.deed tasks at refl s b

pub no_bit : {A : Type 0} (b : Bool) → b ≡ true → b ≡ false → A
no_bit b h k = cc

-- what is put into an empty set: what the task knows, and then what is before the event by what it is
pub is_before : (es : List Event) (n i : ℕ) (e : Event) (d : Deed) (tasks : List Standing) (old : Bool) {B C : Type 0} → slice_get es n ≡ Some e
    → e.deed ≡ d → AreKept es n tasks → old ≡ false → (B ↔ ((old ≡ true) ⊎ (knows tasks e.task i ≡ true))) → (C ↔ (B ⊎ ByDeed es tasks n e.task d i))
    → C ↔ IsBefore es i n
is_before es n i e d tasks old at is s none b c = (
  λ h. elim (c.0 h) [
    | inl past ↦ elim (b.0 past) [
      | inl o ↦ no_bit old o none
      | inr k ↦ known_before es n i e tasks at s (inl k)
    ]
    | inr x ↦ deed_before es n i e d tasks at is s x
  ],
  λ h. elim (before_known es n i e tasks at s h) [
    | inl k ↦ c.1 (inl (b.1 (inr k)))
    | inr x ↦ c.1 (inr (subst (λ y. ByDeed es tasks n e.task y i) is x))
  ],
)

pub nothing_more : {B : Type 0} → B ↔ (B ⊎ ⊥)
nothing_more = (λ h. inl h, λ h. elim h [ inl b ↦ b | inr n ↦ absurd n ])

-- what is listed stands for more, where the rest is in already
pub stands_for : {B C K X Y : Type 0} → (C ↔ (B ⊎ X)) → (K → B) → (X → Y) → (Y → K ⊎ X) → C ↔ (B ⊎ Y)
stands_for c past to from = (
  λ h. elim (c.0 h) [ inl b ↦ inl b | inr x ↦ inr (to x) ],
  λ h. elim h [ inl b ↦ c.1 (inl b) | inr y ↦ elim (from y) [ inl k ↦ c.1 (inl (past k)) | inr x ↦ c.1 (inr x) ] ],
)

pub two_more : {B C D P X : Type 0} → (C ↔ (B ⊎ P)) → (D ↔ (C ⊎ X)) → D ↔ (B ⊎ (P ⊎ X))
two_more c d = (
  λ h. elim (d.0 h) [ inl past ↦ elim (c.0 past) [ inl b ↦ inl b | inr p ↦ inr (inl p) ] | inr x ↦ inr (inr x) ],
  λ h. elim h [ inl b ↦ d.1 (inl (c.1 (inl b))) | inr o ↦ elim o [ inl p ↦ d.1 (inl (c.1 (inr p))) | inr x ↦ d.1 (inr x) ] ],
)

-- ---- an event is taken in

-- what a replaced task leaves as it was
pub kept_same : {X : Type 0} (F : Kept → X) (tasks : List Standing) (p : ℕ) (st new : Standing) → p < length tasks → st ≡ get_or tasks p st
    → F (kept_of new) ≡ F (kept_of st) → (t : ℕ) → F (kept_at (set tasks p new) t) ≡ F (kept_at tasks t)
kept_same F tasks p st new l is same t =
    elim (cases_eq t p) [
      | inl here ↦
          ap (λ k. F (kept_at (set tasks p new) k)) here ∙ ap F (set_here kept_of tasks p new nothing l) ∙ same
          ∙ sym (ap F (read_at kept_of tasks p st nothing (place_read tasks p st l is))) ∙ sym (ap (λ k. F (kept_at tasks k)) here)
      | inr apart ↦ ap F (set_other kept_of tasks p t new nothing apart)
    ]

pub begins_parent : (p q : ℕ) (us vs : List Use) → Begins p us ≡ Begins q vs → p ≡ q
begins_parent p q us vs h = cc

pub begins_uses : (p q : ℕ) (us vs : List Use) → Begins p us ≡ Begins q vs → us ≡ vs
begins_uses p q us vs h = cc

pub not_touches : (d : Deed) (p : ℕ) (us : List Use) → d ≡ Touches → d ≢ Begins p us
not_touches d p us a b = cc

pub not_awaits : (d : Deed) (w : Option (List Use)) (p : ℕ) (us : List Use) → d ≡ Awaits w → d ≢ Begins p us
not_awaits d w p us a b = cc

pub not_leaves : (d : Deed) (count p : ℕ) (us : List Use) → d ≡ Leaves count → d ≢ Begins p us
not_leaves d count p us a b = cc

-- an event of another task isn't this one
earlier : (es : List Event) (n t k : ℕ) (e : Event) → slice_get es n ≡ Some e → t ≢ e.task → IsBy es t k → k < n + 1 → k < n
earlier es n t k e at apart by l =
    elim (cases_eq k n) [
      | inl same ↦ absurd (apart (sym (by_is es t n e at (subst (IsBy es t) same by))))
      | inr other ↦ omega (arith, l, other)
    ]

-- behind an event its task knows just what is up to it
pub known_up : (es : List Event) (n i : ℕ) (e : Event) (tasks : List Standing) → slice_get es n ≡ Some e → AreKept es (n + 1) tasks
    → (knows tasks e.task i ≡ true) ↔ IsUpTo es i n
known_up es n i e tasks at s =
    let mine : IsBy es e.task n = is_by es n e at in (
      λ h. let k = (s.known e.task i).0 h in up_trans es i k.own n k.reached (in_turn es e.task k.own n k.done mine (omega (arith, k.early))),
      λ u. known_by es (n + 1) tasks e.task i n s (omega arith) mine u,
    )

-- before a touch is just what its task knows
pub touch_known : (es : List Event) (n i : ℕ) (e : Event) (tasks : List Standing) → slice_get es n ≡ Some e → e.deed ≡ Touches → AreKept es n tasks
    → (knows tasks e.task i ≡ true) ↔ IsBefore es i n
touch_known es n i e tasks at is s = (
  λ k. known_before es n i e tasks at s (inl k),
  λ b. elim (before_known es n i e tasks at s b) [
    | inl k ↦ k
    | inr x ↦ absurd (subst (λ d. ByDeed es tasks n e.task d i) is x)
  ],
)

-- one more in a set of what is before an event
pub one_more : (es : List Event) (n i : ℕ) (old new : Bool) → new ≡ (old || (i == n)) → ((old ≡ true) ↔ IsBefore es i n) → (new ≡ true) ↔ IsUpTo es i n
one_more es n i old new is b = (
  λ h. elim (or_true old (i == n) (sym is ∙ h)) [
    | inl past ↦ inr (b.0 past)
    | inr here ↦ inl (eqb-true i n here)
  ],
  λ h. elim h [
    | inl here ↦ is ∙ or_right old (i == n) (ap (λ k. k == n) here ∙ eq_itself n)
    | inr past ↦ is ∙ true_or old (i == n) (b.1 past)
  ],
)

pub kept_more : (es : List Event) (n : ℕ) (e : Event) (tasks new : List Standing) → slice_get es n ≡ Some e → AreKept es n tasks
    → ((i : ℕ) → (knows new e.task i ≡ true) ↔ IsUpTo es i n) → last_of new e.task ≡ n
    → ((t : ℕ) → t ≢ e.task → (kept_at new t).known ≡ (kept_at tasks t).known)
    → ((t : ℕ) → t ≢ e.task → last_of new t ≡ last_of tasks t) → AreKept es (n + 1) new
kept_more es n e tasks new at s up last others lasts = record {
  known = λ t i. elim (cases_eq t e.task) [
    | inl same ↦
        let is : knows new t i ≡ knows new e.task i = ap (λ x. knows new x i) same in
        let mine : IsBy es t n = subst (λ x. IsBy es x n) (sym same) (is_by es n e at) in (
          λ h. record { own = n; early = omega arith; done = mine; reached = (up i).0 (sym is ∙ h) },
          λ k. is ∙ (up i).1 (up_trans es i k.own n k.reached (in_turn es t k.own n k.done mine (omega (arith, k.early)))),
        )
    | inr apart ↦
        let is : knows new t i ≡ knows tasks t i = ap (λ ws. bit_in ws i) (others t apart) in (
          λ h. let k = (s.known t i).0 (sym is ∙ h) in record { own = k.own; early = omega (arith, k.early); done = k.done; reached = k.reached },
          λ k. is ∙ (s.known t i).1 (record { own = k.own; early = earlier es n t k.own e at apart k.done k.early; done = k.done; reached = k.reached }),
        )
  ];
  lasts = λ t k l by. elim (cases_eq t e.task) [
    | inl same ↦
        let is : last_of new t ≡ n = ap (last_of new) same ∙ last in
        let mine : IsBy es t n = subst (λ x. IsBy es x n) (sym same) (is_by es n e at) in
        subst (IsLastFrom es (n + 1) t k) (sym is) (record { behind = omega (arith, l); early = omega arith; done = mine })
    | inr apart ↦
        let old = s.lasts t k (earlier es n t k e at apart by l) by in
        subst (IsLastFrom es (n + 1) t k) (sym (lasts t apart)) (record { behind = old.behind; early = omega (arith, old.early); done = old.done })
  ];
}
