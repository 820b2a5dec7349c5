-- A child that has finished hands out the list of those that waited for it, and no other child is ready by its end.
use Rattle.std.proofs.Common.{◌≡◌, ◌==◌, ◌||◌, ◌+◌, ◌<◌, ◌≤◌, ℕ, zero, suc, List, [], ◌∷◌, Bool, true, false, cond, length, take, get_or, Option, Some, None, inl, inr, refl, sym, ap, ◌∙◌, arith, true≢false}
use Rattle.std.specs.List.{All, slice_get}
use Rattle.std.specs.Option.{option_map, unwrap_or}
use Rattle.std.proofs.lemmas.Bool.{eqb-true, eq-eqb}
use Rattle.std.proofs.lemmas.Option.{same_Some, none-some, slice_get-map, slice_get_within}
use Rattle.ot_model.proofs.CellsLemmas.{map-updated, length-updated}
use Rattle.ot_model.specs.Cells.{updated}
use Rattle.ot_depend.specs.Siblings.{FinishedAreReady, is_ready, count_direct, waiting_for, has, times, LetsTheSame, WaitForLess}
use Rattle.ot_depend.specs.Kept.{Kid, siblings, owes, due, IsLinked, woken, kid_ended, waiters_of, WaitForAll}
use Rattle.ot_depend.specs.View.{IsTrueOf}
use Rattle.ot_depend.specs.declared.cells.Table.{Table}
use Rattle.ot_depend.specs.declared.groups.Groups.{Groups}
use Rattle.ot_depend.proofs.ListLemmas.{updated_back, sum_by-updated, times-cons}
use Rattle.ot_depend.proofs.LinkLemmas.{woken_back, end_back, IsLinked-end}
use Rattle.ot_depend.proofs.HeartLemmas.{ready_by_count, known_from_use}
use Rattle.ot_depend.proofs.ChildrenLemmas.{has-place, length-woken}
use Rattle.ot_depend.proofs.ReadyLemmas.{is_ready-told}
use Rattle.ot_depend.proofs.WaitLemmas.{waiting_counted}

-- a child that nobody waits for any more
abbrev pub quiet : Kid → Kid
quiet k = record k { waiters = [] }

module _ (kids : List Kid) (i : ℕ) (me : Kid) (known : slice_get kids i ≡ Some me) (over : me.it.finished ≡ true) where
  pub siblings-quiet : siblings (updated kids i quiet) ≡ siblings kids
  siblings-quiet = map-updated (λ (k : Kid). k.it) kids i quiet (λ k. refl)

  due-quiet : (j : ℕ) → due j (updated kids i quiet) ≡ due j kids
  due-quiet j =
      let was : owes j me ≡ 0 = ap (λ b. cond b 0 (times j me.waiters)) over in
      let now : owes j (quiet me) ≡ 0 = ap (λ b. cond b 0 (times j [])) over in
      omega (arith, sum_by-updated (owes j) quiet kids i me known)

  -- a child, as it was
  quiet_back : (j : ℕ) (k : Kid) → slice_get (updated kids i quiet) j ≡ Some k →
      (t : Kid) × (slice_get kids j ≡ Some t) × (k.it.finished ≡ false → k ≡ t) × (k.waiting ≡ t.waiting) × ((n : ℕ) → times n t.waiters ≤ 1 → times n k.waiters ≤ 1)
  quiet_back j k there =
      let now = updated_back quiet kids i j k there in
      elim now.2 [
        | inl here ↦ (
          now.0,
          now.1,
          λ still. absurd (true≢false (
              sym (ap (λ (t : Kid). t.it.finished) here.1 ∙ ap (λ (t : Kid). t.it.finished) (same_Some now.0 me (sym now.1 ∙ ap (slice_get kids) (sym here.0) ∙ known)) ∙ over) ∙ still)),
          ap (λ (t : Kid). t.waiting) here.1,
          λ n few. let none : times n k.waiters ≡ 0 = ap (λ (t : Kid). times n t.waiters) here.1 in omega (arith, none),
        )
        | inr other ↦ (now.0, now.1, λ still. other.1, ap (λ (t : Kid). t.waiting) other.1, λ n few. let is : times n k.waiters ≡ times n now.0.waiters = ap (λ (t : Kid). times n t.waiters) other.1 in omega (arith, few, is))
      ]

  pub IsLinked-quiet : IsLinked kids → IsLinked (updated kids i quiet)
  IsLinked-quiet linked = record {
    told = λ a b k there still waits. let t = quiet_back a k there in
        let is : k ≡ t.0 = t.2 still in
        rw siblings-quiet (linked.told a b t.0 t.1 (sym (ap (λ (x : Kid). x.it.finished) is) ∙ still) (sym (ap (λ (x : Kid). has b x.waiters) is) ∙ waits));
    telling = λ a b k there still direct. let t = quiet_back a k there in
        let is : k ≡ t.0 = t.2 still in
        ap (λ (x : Kid). has b x.waiters) is ∙ linked.telling a b t.0 t.1 (sym (ap (λ (x : Kid). x.it.finished) is) ∙ still) (rw siblings-quiet at direct);
    once = λ a b k there. let t = quiet_back a k there in t.4 b (linked.once a b t.0 t.1);
    counted = λ j k there. let t = quiet_back j k there in t.3 ∙ linked.counted j t.0 t.1 ∙ sym (due-quiet j);
  }

  pub kept-quiet : (cells : Table) (groups : Groups) (unfinished : ℕ) → IsTrueOf kids cells groups unfinished → IsTrueOf (updated kids i quiet) cells groups unfinished
  kept-quiet cells groups unfinished old = record {
    ready = rw siblings-quiet old.ready;
    linked = IsLinked-quiet old.linked;
    sound = old.sound;
    rows = rw siblings-quiet old.rows;
    in_group = λ g. rw siblings-quiet (old.in_group g);
    all = rw siblings-quiet old.all;
  }

-- ---- who is as ready as before

times-none : (n : ℕ) (xs : List ℕ) → has n xs ≡ false → times n xs ≡ 0
times-none n [] h = refl
times-none n (x ∷ xs) h = by (λ none. times-none n xs none) (x == n) refl h
  where
    by : (has n xs ≡ false → times n xs ≡ 0) → (b : Bool) → (x == n) ≡ b → (b || has n xs) ≡ false → times n (x ∷ xs) ≡ 0
    by later true e none = absurd (true≢false none)
    by later false e none =
        let one : cond {A = ℕ} (x == n) 1 0 ≡ 0 = ap (λ b. cond {A = ℕ} b 1 0) e in
        let rest = later none in
        omega (arith, times-cons n x xs, one, rest)

past-none : {A : Type 0} (xs : List A) (j : ℕ) → length xs ≤ j → slice_get xs j ≡ None
past-none [] j h = refl
past-none (x ∷ xs) zero h = absurd (omega (arith, h))
past-none (x ∷ xs) (suc j) h = past-none xs j (omega (arith, h))

none-past : {A : Type 0} (xs : List A) (j : ℕ) → slice_get xs j ≡ None → length xs ≤ j
none-past [] j h = omega arith
none-past (x ∷ xs) zero h = absurd (none-some x (sym h))
none-past (x ∷ xs) (suc j) h = omega (arith, none-past xs j h)

-- whether it is ready, by the number of those that it waits for
ready-counted : (kids : List Kid) (j : ℕ) (k : Kid) → IsLinked kids → FinishedAreReady (siblings kids) → slice_get kids j ≡ Some k → (k.waiting == 0) ≡ is_ready (siblings kids) j
ready-counted kids j k linked all known =
    let told = ready_by_count kids j k linked all known in
    is_ready-told (k.waiting == 0) (siblings kids) j ((λ none. told.0 (eqb-true k.waiting 0 none)), (λ ready. eq-eqb k.waiting 0 (told.1 ready)))

ready-unknown : (kids : List Kid) (j : ℕ) → slice_get kids j ≡ None → is_ready (siblings kids) j ≡ false
ready-unknown kids j none =
    let gone : slice_get (siblings kids) j ≡ None = slice_get-map (λ (k : Kid). k.it) kids j ∙ ap (option_map (λ (k : Kid). k.it)) none in
    rw gone refl

module _ (kids : List Kid) (i : ℕ) (me : Kid) (linked : IsLinked kids) (all : FinishedAreReady (siblings kids)) (known : slice_get kids i ≡ Some me) (unfinished : me.it.finished ≡ false)
    (all-now : FinishedAreReady (siblings (updated (woken kids me.waiters) i kid_ended))) where
  abbrev now : List Kid
  now = updated (woken kids me.waiters) i kid_ended

  long : length now ≡ length kids
  long = length-updated (woken kids me.waiters) i kid_ended ∙ length-woken me.waiters kids

  pub ready-kept : LetsTheSame me.waiters (siblings kids) (siblings now)
  ready-kept j none = by (slice_get now j) refl
    where
      by : (o : Option Kid) → slice_get now j ≡ o → is_ready (siblings now) j ≡ is_ready (siblings kids) j
      by None gone = ready-unknown now j gone ∙ sym (ready-unknown kids j (past-none kids j (omega (arith, none-past now j gone, long))))
      by (Some k) there =
          let t = end_back kids i me linked known unfinished j k there in
          let same : k.waiting ≡ t.0.waiting = omega (arith, t.3, times-none j me.waiters none) in
          sym (ready-counted now j k (IsLinked-end kids i me linked known unfinished) all-now there) ∙ ap (λ n. n == 0) same
          ∙ ready-counted kids j t.0 linked all t.1

-- of a child that isn't known nothing is told
waiting-unknown : (kids : List Kid) (j : ℕ) → slice_get kids j ≡ None → waiting_for (siblings kids) j ≡ 0
waiting-unknown kids j none =
    let gone : slice_get (siblings kids) j ≡ None = slice_get-map (λ (k : Kid). k.it) kids j ∙ ap (option_map (λ (k : Kid). k.it)) none in
    ap (λ o. unwrap_or (option_map (λ s. count_direct (take j (siblings kids)) s.uses) o) 0) gone

module _ (kids : List Kid) (i : ℕ) (me : Kid) (linked : IsLinked kids) (known : slice_get kids i ≡ Some me) (unfinished : me.it.finished ≡ false) (wait : WaitForAll kids me.waiters) where
  abbrev after : List Kid
  after = updated (woken kids me.waiters) i kid_ended

  -- each child waits for as many less as it is told of
  pub waits-less : WaitForLess me.waiters (siblings kids) (siblings after)
  waits-less j = by (slice_get after j) (has j me.waiters) refl refl
    where
      enough : (b : Bool) (t : Kid) → slice_get kids j ≡ Some t → has j me.waiters ≡ b → times j me.waiters ≤ t.waiting
      enough true t at told = let k = wait j told in let same : k.0.waiting ≡ t.waiting = ap (λ (x : Kid). x.waiting) (same_Some k.0 t (sym k.1 ∙ at)) in omega (arith, same, k.2)
      enough false t at told = omega (arith, times-none j me.waiters told)

      by : (o : Option Kid) (b : Bool) → slice_get after j ≡ o → has j me.waiters ≡ b → waiting_for (siblings kids) j ≡ waiting_for (siblings after) j + times j me.waiters
      by None true gone told = let k = wait j told in absurd (none-some k.0 (sym (past-none kids j (omega (arith, none-past after j gone, length-updated (woken kids me.waiters) i kid_ended, length-woken me.waiters kids))) ∙ k.1))
      by None false gone told =
          let old = waiting-unknown kids j (past-none kids j (omega (arith, none-past after j gone, length-updated (woken kids me.waiters) i kid_ended, length-woken me.waiters kids))) in
          let now = waiting-unknown after j gone in
          omega (arith, old, now, times-none j me.waiters told)
      by (Some k) b there told =
          let t = end_back kids i me linked known unfinished j k there in
          let old = waiting_counted kids linked j t.0 t.1 in
          let now = waiting_counted after (IsLinked-end kids i me linked known unfinished) j k there in
          omega (arith, old, now, t.3, enough b t.0 t.1 told)

-- those that wait are known
pub waiters-known : (kids : List Kid) (i : ℕ) (me : Kid) → IsLinked kids → slice_get kids i ≡ Some me → me.it.finished ≡ false → All (λ w. w < length (siblings kids)) me.waiters
waiters-known kids i me linked known unfinished = λ k d within.
    let direct = linked.told i (get_or me.waiters k d) me known unfinished (has-place me.waiters k d within) in
    let its = known_from_use (siblings kids) direct.cell (get_or me.waiters k d) direct.uses in
    slice_get_within (siblings kids) (get_or me.waiters k d) its.0 its.1

-- the child that has finished, with the list that it still has
pub released : (kids : List Kid) (i : ℕ) (me : Kid) (kids1 : List Kid) (r : Kid) → slice_get kids i ≡ Some me → kids1 ≡ updated (woken kids me.waiters) i kid_ended → slice_get kids1 i ≡ Some r →
    (r.it.finished ≡ true) × (r.waiters ≡ me.waiters)
released kids i me kids1 r known is there =
    let now = updated_back kid_ended (woken kids me.waiters) i i r (ap (λ ks. slice_get ks i) (sym is) ∙ there) in
    let old = woken_back me.waiters kids i now.0 now.1 in
    elim now.2 [
      | inl here ↦ (ap (λ (t : Kid). t.it.finished) here.1, ap (λ (t : Kid). t.waiters) here.1 ∙ old.3 ∙ ap (λ (t : Kid). t.waiters) (same_Some old.0 me (sym old.1 ∙ known)))
      | inr other ↦ absurd (other.0 refl)
    ]

pub waiters-are : (kids : List Kid) (i : ℕ) (me : Kid) → slice_get kids i ≡ Some me → waiters_of kids i ≡ me.waiters
waiters-are kids i me known = ap (λ o. unwrap_or (option_map (λ (k : Kid). k.waiters) o) []) known
