-- Children that are listed, and what an event changes of them.
use Rattle.std.proofs.Common.{◌≡◌, ◌≢◌, ◌∙◌, ℕ, zero, suc, ◌+◌, ◌%◌, ◌==◌, ◌<◌, true, false, List, [], ◌∷◌, length, get_or, refl, sym, ap, subst, inl, inr, arith}
use Rattle.std.specs.Prelude.{◌⊎◌, ◌↔◌, Contains, Option, Some, None, slice_get}
use Rattle.std.proofs.lemmas.Bool.{cases_eq}
use Rattle.std.proofs.lemmas.Nat.Bits.{bit_at-zero}
use Rattle.std.proofs.lemmas.List.Elements.{Contains-append_left, Contains-append_right, Contains-append_cases, Contains-push}
use Rattle.ot_model.specs.declared.stmt.Use.{Use}
use Rattle.ot_race.specs.Ends.{HasEnded, AreEnds}
use Rattle.ot_race.specs.Events.{Begins, Awaits, Event}
use Rattle.ot_race.specs.Order.{Does}
use Rattle.ot_race.specs.Siblings.{siblings_seen, seen_by_all, IsLedTo, HasDeclared, IsStoodFor, AreSiblings}
use Rattle.ot_race.specs.Standings.{kept_at, knows, last_of, pending_of, IsUpTo, IsWithin, AreKept, ArePending, IsOfListed, IsOfChild}
use Rattle.ot_race.specs.Stands.{Stands, IsPassedBy, SiblingsNote, PendingNote}
use Rattle.ot_sets.specs.Sets.{bit_in}
use Rattle.ot_race.specs.declared.order.Standings.{Standings}
use Rattle.ot_race.specs.declared.siblings.Siblings.{Siblings}
use Rattle.ot_race.specs.declared.standing.Standing.{Standing}
use Rattle.ot_race.proofs.PlaceLemmas.{place_read, place_within}
use Rattle.ot_race.proofs.DependsLemmas.{depends_by, depended}
use Rattle.ot_race.proofs.OrderLemmas.{does_by, does_deed}
use Rattle.ot_race.proofs.RowLemmas.{is_over, is_used}
use Rattle.ot_race.proofs.StandingLemmas.{deed_before, kept_more, known_before, known_up, no_bit}

-- ---- lists

-- what stands in a list at a place, and the place of what it contains
at_place : {A : Type 0} (xs : List A) (k : ℕ) (x : A) → slice_get xs k ≡ Some x → Contains xs x
at_place xs k x h = (k, place_within xs k x h, read xs k x h)
  where
    read : {A : Type 0} (ys : List A) (j : ℕ) (y : A) → slice_get ys j ≡ Some y → get_or ys j y ≡ y
    read [] j y e = cc
    read (z ∷ ys) zero y e = cc
    read (z ∷ ys) (suc j) y e = read ys j y e

place_of : {A : Type 0} (xs : List A) (x : A) → Contains xs x → (k : ℕ) × (slice_get xs k ≡ Some x)
place_of xs x h = (h.0, place_read xs h.0 x h.1 (sym h.2))

listed_of : (tasks : List Standing) (list : List ℕ) (t i : ℕ) → Contains list t → knows tasks t i ≡ true → IsOfListed tasks list 0 i
listed_of tasks list t i h k = let p = place_of list t h in record { place = p.0; task = t; late = omega arith; there = p.1; known = k }

-- whom all these uses see
seen_one : (s : Siblings) (p : ℕ) (us : List Use) (c : ℕ) → Contains (seen_by_all s p us) c → (u : Use) × Contains us u × Contains (siblings_seen s p u) c
seen_one s p [] c h = absurd (omega (arith, h.1))
seen_one s p (u ∷ us) c h =
    elim (Contains-append_cases (siblings_seen s p u) (seen_by_all s p us) c h) [
      | inl here ↦ (u, Contains-append_left (u ∷ []) us u (Contains-push [] u), here)
      | inr there ↦ let x = seen_one s p us c there in (x.0, Contains-append_right (u ∷ []) us x.0 x.1, x.2)
    ]

seen_all : (s : Siblings) (p : ℕ) (us : List Use) (u : Use) (c : ℕ) → Contains us u → Contains (siblings_seen s p u) c → Contains (seen_by_all s p us) c
seen_all s p [] u c h k = absurd (omega (arith, h.1))
seen_all s p (v ∷ us) u c h k =
    elim (Contains-append_cases (v ∷ []) us u h) [
      | inl here ↦ Contains-append_left (siblings_seen s p v) (seen_by_all s p us) c (subst (λ x. Contains (siblings_seen s p x) c) (sym (is_used v u here)) k)
      | inr there ↦ Contains-append_right (siblings_seen s p v) (seen_by_all s p us) c (seen_all s p us u c there k)
    ]

-- ---- the children that are listed are those that are awaited

-- a child on which one of these uses depends would be awaited by a wait that has them
of_declared : (es : List Event) (n p c i : ℕ) (u : Use) (d : List Use) (tasks : List Standing) → HasDeclared es n p u c → Contains d u → knows tasks c i ≡ true
    → IsOfChild es n tasks p (Some d) i
of_declared es n p c i u d tasks h there k = record {
  child = c;
  begin = h.begin;
  uses = h.uses;
  early = h.early;
  does = h.does;
  awaited = depends_by h.uses d h.led.one u h.led.there there h.led.same h.led.written;
  known = k;
}

pub listed_children : (es : List Event) (n p i : ℕ) (d : List Use) (tasks : List Standing) (s : Siblings) → AreSiblings es n tasks s
    → IsOfListed tasks (seen_by_all s p d) 0 i → IsOfChild es n tasks p (Some d) i
listed_children es n p i d tasks s a l =
    let x = seen_one s p d l.task (at_place (seen_by_all s p d) l.place l.task l.there) in
    of_declared es n p l.task i x.0 d tasks (a.sound p l.task x.0 x.2) x.1 l.known

pub children_listed : (es : List Event) (n p i : ℕ) (d : List Use) (tasks : List Standing) (s : Siblings) → AreSiblings es n tasks s
    → IsOfChild es n tasks p (Some d) i → (knows tasks p i ≡ true) ⊎ IsOfListed tasks (seen_by_all s p d) 0 i
children_listed es n p i d tasks s a o =
    let x = depended o.uses d o.awaited in
    let led : IsLedTo o.uses x.1 = record { one = x.0; there = x.2; same = x.4; written = x.5 } in
    let h : HasDeclared es n p x.1 o.child = record { begin = o.begin; uses = o.uses; early = o.early; does = o.does; led = led } in
    elim (a.all p o.child x.1 h) [
      | inl there ↦ inr (listed_of tasks (seen_by_all s p d) o.child i (seen_all s p d x.1 o.child x.3 there) o.known)
      | inr stood ↦ elim stood.by [
        | inl within ↦ inl (within i o.known)
        | inr other ↦ inr (listed_of tasks (seen_by_all s p d) other.0 i (seen_all s p d x.1 other.0 x.3 other.1) (other.2 i o.known))
      ]
    ]

pub pending_children : (es : List Event) (n p i : ℕ) (tasks : List Standing) → ArePending es n tasks → IsOfListed tasks (pending_of tasks p) 0 i
    → IsOfChild es n tasks p None i
pending_children es n p i tasks a l =
    let b = a.sound p l.task (at_place (pending_of tasks p) l.place l.task l.there) in
    record { child = l.task; begin = b.begin; uses = b.uses; early = b.early; does = b.does; awaited = refl; known = l.known }

pub children_pending : (es : List Event) (n p i : ℕ) (tasks : List Standing) → ArePending es n tasks → IsOfChild es n tasks p None i
    → (knows tasks p i ≡ true) ⊎ IsOfListed tasks (pending_of tasks p) 0 i
children_pending es n p i tasks a o =
    elim (a.all p o.child (record { begin = o.begin; uses = o.uses; early = o.early; does = o.does })) [
      | inl there ↦ inr (listed_of tasks (pending_of tasks p) o.child i there o.known)
      | inr ended ↦ inl (ended.1 i o.known)
    ]

-- ---- an event more

-- what an event does to what tasks know: its own task then knows all that is up to the event, and the others what they knew
record Grows (es : List Event) (n : ℕ) (e : Event) (tasks new : List Standing) : Type 0 where
  pub at : slice_get es n ≡ Some e
  pub kept : AreKept es n tasks
  pub here : (i : ℕ) → IsUpTo es i n → knows new e.task i ≡ true
  pub others : (t : ℕ) → t ≢ e.task → (i : ℕ) → knows new t i ≡ knows tasks t i

grows : (es : List Event) (n : ℕ) (e : Event) (tasks new : List Standing) → Grows es n e tasks new → (t i : ℕ) → knows tasks t i ≡ true → knows new t i ≡ true
grows es n e tasks new g t i k =
    elim (cases_eq t e.task) [
      | inl same ↦
          subst (λ x. knows new x i ≡ true) (sym same)
          (g.here i (inr (known_before es n i e tasks g.at g.kept (inl (subst (λ x. knows tasks x i ≡ true) same k)))))
      | inr apart ↦ g.others t apart i ∙ k
    ]

-- a task that has ended knows what it knew
frozen : (es : List Event) (n : ℕ) (e : Event) (tasks new : List Standing) → Grows es n e tasks new → (c i : ℕ) → HasEnded es n c → knows new c i ≡ true
    → knows tasks c i ≡ true
frozen es n e tasks new g c i ended k =
    let apart : c ≢ e.task = λ same.
    let l : n < n = ended n (record { it = e; there = g.at; done_by = sym same }) in absurd (omega (arith, l)) in
    sym (g.others c apart i) ∙ k

within_more : (es : List Event) (n : ℕ) (e : Event) (tasks new : List Standing) → Grows es n e tasks new → (c d : ℕ) → HasEnded es n c → IsWithin tasks c d
    → IsWithin new c d
within_more es n e tasks new g c d ended w i k = grows es n e tasks new g d i (w i (frozen es n e tasks new g c i ended k))

ended_more : (es : List Event) (n c : ℕ) → HasEnded es n c → HasEnded es (n + 1) c
ended_more es n c ended k by = let l : k < n = ended k by in omega (arith, l)

-- what a child knows that a wait awaits, or on which a task depends that begins, is known behind it
awaited_known : (es : List Event) (n : ℕ) (e : Event) (tasks new : List Standing) → Grows es n e tasks new → (p i : ℕ) (w : Option (List Use))
    → Does es p (Awaits w) n → IsOfChild es n tasks p w i → knows new p i ≡ true
awaited_known es n e tasks new g p i w does o =
    let is : e.task ≡ p = does_by es p n (Awaits w) e g.at does in
    let before = deed_before es n i e (Awaits w) tasks g.at (does_deed es p n (Awaits w) e g.at does) g.kept (subst (λ t. IsOfChild es n tasks t w i) (sym is) o) in
    subst (λ t. knows new t i ≡ true) is (g.here i (inr before))

begun_known : (es : List Event) (n : ℕ) (e : Event) (tasks new : List Standing) → Grows es n e tasks new → (p t i : ℕ) (d : List Use)
    → Does es t (Begins p d) n → IsOfChild es n tasks p (Some d) i → knows new t i ≡ true
begun_known es n e tasks new g p t i d does o =
    let is : e.task ≡ t = does_by es t n (Begins p d) e g.at does in
    let before = deed_before es n i e (Begins p d) tasks g.at (does_deed es t n (Begins p d) e g.at does) g.kept (inr o) in
    subst (λ x. knows new x i ≡ true) is (g.here i (inr before))

pending_more : (es : List Event) (n : ℕ) (e : Event) (tasks new : List Standing) (ends : List ℕ) → Grows es n e tasks new → AreEnds es ends
    → PendingNote es n ends tasks new → ArePending es n tasks → ArePending es (n + 1) new
pending_more es n e tasks new ends g are-ends note a = record {
  sound = λ p c h. elim (note.only p c h) [
    | inl old ↦ let b = a.sound p c old in record { begin = b.begin; uses = b.uses; early = omega (arith, b.early); does = b.does }
    | inr more ↦ record { begin = n; uses = more.0; early = omega arith; does = more.1 }
  ];
  all = λ p c b. elim (cases_eq b.begin n) [
    | inl same ↦ inl (note.entered p c b.uses (subst (Does es c (Begins p b.uses)) same b.does))
    | inr apart ↦
        let early : b.begin < n = omega (arith, b.early, apart) in
        elim (a.all p c (record { begin = b.begin; uses = b.uses; early = early; does = b.does })) [
          | inl there ↦ elim (note.kept p c there) [
            | inl still ↦ inl still
            | inr over ↦
                let ended = are-ends c n (is_over ends n c over.0) in
                inr (
                  ended_more es n c ended,
                  λ i k.
                      awaited_known es n e tasks new g p i None over.1 (record {
                        child = c;
                        begin = b.begin;
                        uses = b.uses;
                        early = early;
                        does = b.does;
                        awaited = refl;
                        known = frozen es n e tasks new g c i ended k;
                      }),
                )
          ]
          | inr past ↦ inr (ended_more es n c past.0, within_more es n e tasks new g c p past.0 past.1)
        ]
  ];
}

-- whom a step no longer shows has ended, and one that is shown knows what it knew, or the parent does
replaced : (es : List Event) (n : ℕ) (e : Event) (tasks new : List Standing) (s t : Siblings) → Grows es n e tasks new → AreSiblings es n tasks s
    → (p c : ℕ) (u : Use) → IsPassedBy es n p s t u c
    → ((i : ℕ) → knows tasks c i ≡ true → knows new p i ≡ true) ⊎ ((x : ℕ) × Contains (siblings_seen t p u) x × ((i : ℕ) → knows tasks c i ≡ true → knows new x i ≡ true))
replaced es n e tasks new s t g a p c u by =
    let h : HasDeclared es n p by.sees.one c = a.sound p c by.sees.one by.sees.sees in
    elim by.by [
      | inl begins ↦ inr (
        begins.0,
        begins.2,
        λ i k. begun_known es n e tasks new g p begins.0 i by.uses begins.1 (of_declared es n p c i by.sees.one by.uses tasks h by.sees.there k),
      )
      | inr wait ↦ inl (λ i k. awaited_known es n e tasks new g p i (Some by.uses) wait (of_declared es n p c i by.sees.one by.uses tasks h by.sees.there k))
    ]

stood_more : (es : List Event) (n : ℕ) (e : Event) (tasks new : List Standing) (s t : Siblings) (ends : List ℕ) → Grows es n e tasks new → AreEnds es ends
    → SiblingsNote es n ends s t → AreSiblings es n tasks s → (p c : ℕ) (u : Use) → IsStoodFor es n tasks s p u c → IsStoodFor es (n + 1) new t p u c
stood_more es n e tasks new s t ends g are-ends note a p c u stood = record {
  ended = ended_more es n c stood.ended;
  by = elim stood.by [
    | inl within ↦ inl (within_more es n e tasks new g c p stood.ended within)
    | inr other ↦ elim (note.kept p other.0 u other.1) [
      | inl still ↦ inr (other.0, still, within_more es n e tasks new g c other.0 stood.ended other.2)
      | inr over ↦ elim (replaced es n e tasks new s t g a p other.0 u over.1) [
        | inl parent ↦ inl (λ i k. parent i (other.2 i (frozen es n e tasks new g c i stood.ended k)))
        | inr more ↦ inr (more.0, more.1, λ i k. more.2 i (other.2 i (frozen es n e tasks new g c i stood.ended k)))
      ]
    ]
  ];
}

siblings_more : (es : List Event) (n : ℕ) (e : Event) (tasks new : List Standing) (s t : Siblings) (ends : List ℕ) → Grows es n e tasks new
    → AreEnds es ends → SiblingsNote es n ends s t → AreSiblings es n tasks s → AreSiblings es (n + 1) new t
siblings_more es n e tasks new s t ends g are-ends note a = record {
  sound = λ p c u h. elim (note.only p c u h) [
    | inl old ↦ let b = a.sound p c u old in record { begin = b.begin; uses = b.uses; early = omega (arith, b.early); does = b.does; led = b.led }
    | inr more ↦ record { begin = n; uses = more.0; early = omega arith; does = more.1; led = more.2 }
  ];
  all = λ p c u b. elim (cases_eq b.begin n) [
    | inl same ↦ inl (note.entered p c b.uses u (subst (Does es c (Begins p b.uses)) same b.does) b.led)
    | inr apart ↦
        let early : b.begin < n = omega (arith, b.early, apart) in
        elim (a.all p c u (record { begin = b.begin; uses = b.uses; early = early; does = b.does; led = b.led })) [
          | inl there ↦ elim (note.kept p c u there) [
            | inl still ↦ inl still
            | inr over ↦
                let ended = are-ends c n (is_over ends n c over.0) in
                inr (record {
                  ended = ended_more es n c ended;
                  by = elim (replaced es n e tasks new s t g a p c u over.1) [
                    | inl parent ↦ inl (λ i k. parent i (frozen es n e tasks new g c i ended k))
                    | inr more ↦ inr (more.0, more.1, λ i k. more.2 i (frozen es n e tasks new g c i ended k))
                  ];
                })
          ]
          | inr stood ↦ inr (stood_more es n e tasks new s t ends g are-ends note a p c u stood)
        ]
  ];
}

-- an event more is taken in
pub stands_more : (es : List Event) (n : ℕ) (e : Event) (old new : Standings) → slice_get es n ≡ Some e → Stands es n old
    → ((i : ℕ) → (knows new.tasks.items e.task i ≡ true) ↔ IsUpTo es i n) → last_of new.tasks.items e.task ≡ n
    → ((t : ℕ) → t ≢ e.task → (kept_at new.tasks.items t).known ≡ (kept_at old.tasks.items t).known)
    → ((t : ℕ) → t ≢ e.task → last_of new.tasks.items t ≡ last_of old.tasks.items t) → PendingNote es n old.ends.items old.tasks.items new.tasks.items
    → SiblingsNote es n old.ends.items old.siblings new.siblings → new.ends ≡ old.ends → Stands es (n + 1) new
stands_more es n e old new at s up last others lasts pending siblings ends =
    let is : Grows es n e old.tasks.items new.tasks.items = record {
      at = at;
      kept = s.kept;
      here = λ i u. (up i).1 u;
      others = λ t apart i. ap (λ ws. bit_in ws i) (others t apart);
    } in
    record {
      kept = kept_more es n e old.tasks.items new.tasks.items at s.kept up last others lasts;
      pending = pending_more es n e old.tasks.items new.tasks.items old.ends.items is s.ends pending s.pending;
      siblings = siblings_more es n e old.tasks.items new.tasks.items old.siblings new.siblings old.ends.items is s.ends siblings s.siblings;
      ends = subst (λ x. AreEnds es x.items) (sym ends) s.ends;
    }

-- ---- before the first event

knows_none : (t i : ℕ) → knows [] t i ≡ false
knows_none t i = ap (λ b. b == 1) (bit_at-zero (i % 64))

-- a task that knows an event stands at its place
knower_there : (tasks : List Standing) (t i : ℕ) → knows tasks t i ≡ true → t < length tasks
knower_there [] t i h = no_bit (knows [] t i) h (knows_none t i)
knower_there (st ∷ tasks) zero i h = omega arith
knower_there (st ∷ tasks) (suc t) i h = let l = knower_there tasks t i h in omega (arith, l)

-- so does the task of the event that was taken in last
pub doer_there : (es : List Event) (n : ℕ) (e : Event) (tasks : List Standing) → slice_get es n ≡ Some e → AreKept es (n + 1) tasks → e.task < length tasks
doer_there es n e tasks at s = knower_there tasks e.task n ((known_up es n n e tasks at s).1 (inl refl))

pub stands_none : (es : List Event) (s : Standings) → s.tasks.items ≡ [] → ((p : ℕ) (u : Use) → siblings_seen s.siblings p u ≡ []) → AreEnds es s.ends.items
    → Stands es 0 s
stands_none es s none empty ends = record {
  kept = record {
    known = λ t i. (
      λ h. no_bit (knows [] t i) (subst (λ ts. knows ts t i ≡ true) none h) (knows_none t i),
      λ k. absurd (omega (arith, k.early)),
    );
    lasts = λ t k l by. absurd (omega (arith, l));
  };
  pending = record {
    sound = λ p c h. let x = subst (λ ts. Contains (pending_of ts p) c) none h in absurd (omega (arith, x.1));
    all = λ p c b. absurd (omega (arith, b.early));
  };
  siblings = record {
    sound = λ p c u h. let x = subst (λ l. Contains l c) (empty p u) h in absurd (omega (arith, x.1));
    all = λ p c u d. absurd (omega (arith, d.early));
  };
  ends = ends;
}
