-- What an event changes of the children that are kept.
use Rattle.std.proofs.Common.{◌≡◌, ◌≢◌, ◌∙◌, ℕ, List, [], ◌∷◌, ◌++◌, refl, sym, ap, subst, inl, inr}
use Rattle.std.specs.Prelude.{Contains, Some, None, Result, Ok, Err, OnOk, slice_get}
use Rattle.std.proofs.lemmas.Bool.{cases_eq}
use Rattle.std.proofs.lemmas.List.Elements.{Contains-append_left, Contains-push, Contains-push_cases}
use Rattle.ot_model.specs.declared.stmt.Use.{Use}
use Rattle.ot_race.specs.Ends.{going_on}
use Rattle.ot_race.specs.Events.{Event, Begins, Awaits}
use Rattle.ot_race.specs.Order.{Does}
use Rattle.ot_race.specs.Siblings.{siblings_seen, IsLedTo, IsSeenBy, HaveEntered, HavePassed}
use Rattle.ot_race.specs.Standings.{pending_of}
use Rattle.ot_race.specs.Stands.{SiblingsNote, PendingNote}
use Rattle.ot_race.specs.declared.siblings.Siblings.{Siblings}
use Rattle.ot_race.specs.declared.standing.Standing.{Standing}
use Rattle.ot_race.proofs.OrderLemmas.{does_by, does_deed}
use Rattle.ot_race.proofs.RowLemmas.{left_only, left_kept}
use Rattle.ot_race.proofs.StandingLemmas.{begins_parent, begins_uses, not_awaits}

pub on_ok_two : {T E P Q R : Type 0} (r : Result T E) → (P → Q → R) → OnOk r P → OnOk r Q → OnOk r R
on_ok_two (Ok x) f p q = f p q
on_ok_two (Err e) f p q = p

-- the event is the begin of this child of this parent
begins : (es : List Event) (n p t : ℕ) (uses : List Use) (e : Event) → slice_get es n ≡ Some e → e.task ≡ t → e.deed ≡ Begins p uses → (q c : ℕ)
    → q ≡ p → c ≡ t → Does es c (Begins q uses) n
begins es n p t uses e at task deed q c same-p same-c = record {
  it = e;
  there = at;
  done_by = task ∙ sym same-c;
  does = deed ∙ ap (λ y. Begins y uses) (sym same-p);
}

-- a begin that the event is has its parent, child and uses
record Same (p t : ℕ) (uses : List Use) (q c : ℕ) (us : List Use) : Type 0 where
  pub parents : q ≡ p
  pub children : c ≡ t
  pub declared : us ≡ uses

same_begin : (es : List Event) (n p t : ℕ) (uses : List Use) (e : Event) → slice_get es n ≡ Some e → e.task ≡ t → e.deed ≡ Begins p uses → (q c : ℕ)
    (us : List Use) → Does es c (Begins q us) n → Same p t uses q c us
same_begin es n p t uses e at task deed q c us d =
    let is : Begins q us ≡ Begins p uses = sym (does_deed es c n (Begins q us) e at d) ∙ deed in
    record { parents = begins_parent q p us uses is; children = sym (does_by es c n (Begins q us) e at d) ∙ task; declared = begins_uses q p us uses is }

-- ---- rows

pub siblings_entered : (es : List Event) (n p t : ℕ) (uses : List Use) (e : Event) (ends : List ℕ) (old new : Siblings) → slice_get es n ≡ Some e
    → e.task ≡ t → e.deed ≡ Begins p uses → HaveEntered ends n p t uses old new → SiblingsNote es n ends old new
siblings_entered es n p t uses e ends old new at task deed x = record {
  only = λ q c u h. elim (x.only q c u h) [
    | inl past ↦ inl past
    | inr more ↦ inr (uses, begins es n p t uses e at task deed q c more.0 more.1, more.2)
  ];
  kept = λ q c u h. elim (x.kept q c u h) [
    | inl still ↦ inl still
    | inr over ↦ inr (
      over.1,
      record {
        uses = uses;
        sees = subst (λ y. IsSeenBy old y uses u.cell c) (sym over.0) over.2;
        by = inl (t, begins es n p t uses e at task deed q t over.0 refl, over.3);
      },
    )
  ];
  entered = λ q c us u d led.
      let same = same_begin es n p t uses e at task deed q c us d in
      subst (λ y. Contains (siblings_seen new y u) c) (sym same.parents)
      (subst (λ y. Contains (siblings_seen new p u) y) (sym same.children) (x.entered u (subst (λ y. IsLedTo y u) same.declared led)));
}

pub siblings_passed : (es : List Event) (n me : ℕ) (uses : List Use) (e : Event) (ends : List ℕ) (old new : Siblings) → slice_get es n ≡ Some e
    → e.task ≡ me → e.deed ≡ Awaits (Some uses) → HavePassed ends n me uses old new → SiblingsNote es n ends old new
siblings_passed es n me uses e ends old new at task deed x = record {
  only = λ q c u h. inl (x.only q c u h);
  kept = λ q c u h. elim (x.kept q c u h) [
    | inl still ↦ inl still
    | inr over ↦ inr (
      over.1,
      record {
        uses = uses;
        sees = subst (λ y. IsSeenBy old y uses u.cell c) (sym over.0) over.2;
        by = inr (record { it = e; there = at; done_by = task ∙ sym over.0; does = deed });
      },
    )
  ];
  entered = λ q c us u d led. absurd (not_awaits e.deed (Some uses) q us deed (does_deed es c n (Begins q us) e at d));
}

pub siblings_same : (es : List Event) (n : ℕ) (e : Event) (ends : List ℕ) (s : Siblings) → slice_get es n ≡ Some e
    → ((p : ℕ) (us : List Use) → e.deed ≢ Begins p us) → SiblingsNote es n ends s s
siblings_same es n e ends s at free = record {
  only = λ q c u h. inl h;
  kept = λ q c u h. inl h;
  entered = λ q c us u d led. absurd (free q us (does_deed es c n (Begins q us) e at d));
}

-- ---- children that are pending

pub pending_begun : (es : List Event) (n p t : ℕ) (uses : List Use) (e : Event) (ends : List ℕ) (old new : List Standing) → slice_get es n ≡ Some e
    → e.task ≡ t → e.deed ≡ Begins p uses → pending_of new p ≡ pending_of old p ++ t ∷ []
    → ((q : ℕ) → q ≢ p → pending_of new q ≡ pending_of old q) → PendingNote es n ends old new
pending_begun es n p t uses e ends old new at task deed here others =
    let in-p : (q : ℕ) → q ≡ p → pending_of new q ≡ pending_of old q ++ t ∷ [] = λ q same.
    ap (pending_of new) same ∙ here ∙ ap (λ y. pending_of old y ++ t ∷ []) (sym same) in
    record {
      only = λ q c h. elim (cases_eq q p) [
        | inl same ↦ elim (Contains-push_cases (pending_of old q) t c (subst (λ l. Contains l c) (in-p q same) h)) [
          | inl past ↦ inl past
          | inr is ↦ inr (uses, begins es n p t uses e at task deed q c same (sym is))
        ]
        | inr apart ↦ inl (subst (λ l. Contains l c) (others q apart) h)
      ];
      kept = λ q c h. inl (elim (cases_eq q p) [
        | inl same ↦ subst (λ l. Contains l c) (sym (in-p q same)) (Contains-append_left (pending_of old q) (t ∷ []) c h)
        | inr apart ↦ subst (λ l. Contains l c) (sym (others q apart)) h
      ]);
      entered = λ q c us d.
          let same = same_begin es n p t uses e at task deed q c us d in
          subst (λ y. Contains (pending_of new q) y) (sym same.children)
          (subst (λ l. Contains l t) (sym (in-p q same.parents)) (Contains-push (pending_of old q) t));
    }

pub pending_passed : (es : List Event) (n me : ℕ) (e : Event) (ends : List ℕ) (old new : List Standing) → slice_get es n ≡ Some e → e.task ≡ me
    → e.deed ≡ Awaits None → pending_of new me ≡ going_on ends n (pending_of old me)
    → ((q : ℕ) → q ≢ me → pending_of new q ≡ pending_of old q) → PendingNote es n ends old new
pending_passed es n me e ends old new at task deed here others =
    let in-me : (q : ℕ) → q ≡ me → pending_of new q ≡ going_on ends n (pending_of old q) = λ q same.
    ap (pending_of new) same ∙ here ∙ ap (λ y. going_on ends n (pending_of old y)) (sym same) in
    record {
      only = λ q c h. inl (elim (cases_eq q me) [
        | inl same ↦ left_only ends n (pending_of old q) c (subst (λ l. Contains l c) (in-me q same) h)
        | inr apart ↦ subst (λ l. Contains l c) (others q apart) h
      ]);
      kept = λ q c h. elim (cases_eq q me) [
        | inl same ↦ elim (left_kept ends n (pending_of old q) c h) [
          | inl left ↦ inl (subst (λ l. Contains l c) (sym (in-me q same)) left)
          | inr over ↦ inr (over, record { it = e; there = at; done_by = task ∙ sym same; does = deed })
        ]
        | inr apart ↦ inl (subst (λ l. Contains l c) (sym (others q apart)) h)
      ];
      entered = λ q c us d. absurd (not_awaits e.deed None q us deed (does_deed es c n (Begins q us) e at d));
    }

pub pending_same : (es : List Event) (n : ℕ) (e : Event) (ends : List ℕ) (tasks : List Standing) → slice_get es n ≡ Some e
    → ((p : ℕ) (us : List Use) → e.deed ≢ Begins p us) → PendingNote es n ends tasks tasks
pending_same es n e ends tasks at free = record {
  only = λ q c h. inl h;
  kept = λ q c h. inl h;
  entered = λ q c us d. absurd (free q us (does_deed es c n (Begins q us) e at d));
}

-- what leaves these lists as they are
pub pending_moved : (es : List Event) (n : ℕ) (ends : List ℕ) (old mid new : List Standing) → ((t : ℕ) → pending_of new t ≡ pending_of mid t)
    → PendingNote es n ends old mid → PendingNote es n ends old new
pending_moved es n ends old mid new same x = record {
  only = λ p c h. x.only p c (subst (λ l. Contains l c) (same p) h);
  kept = λ p c h. elim (x.kept p c h) [ inl still ↦ inl (subst (λ l. Contains l c) (sym (same p)) still) | inr over ↦ inr over ];
  entered = λ p c us d. subst (λ l. Contains l c) (sym (same p)) (x.entered p c us d);
}
