-- A job that hasn't ended, and of which no piece is out, has a task that may be claimed.
use Rattle.std.proofs.Common.{◌≡◌, ℕ, zero, suc, ◌+◌, ◌<◌, ◌≤◌, true, false, List, [], ◌∷◌, length, refl, sym, ap, subst, ◌∙◌, ◌⊎◌, inl, inr, arith, true≢false, Some, slice_get, Bool, not, ◌&&◌, ◌||◌, get_or, ◌==◌, None, is_some, count_by, IsTrue, if◌then◌else◌, All}
use Rattle.ot_job.proofs.Common.{cases_Bool, Sibling, IsReady, Region, at, parent_of, ended_at, IsRootOrReady, IsKin, IsSoundRegions, nat_tests, length-map, Body, End, Next, is_ready, is_unfinished, is_unfinished_in, and_true, or_false_left, or_false_right, Open, whole_region, wholes, is_claimable, claimable_of, is_held, is_let_go, end_lets_go, Live, IsWell, any_out, all_ended, state_in, Working, Failing, Ended, Failed, or_right, same_Some}
use Rattle.ot_depend.proofs.CountLemmas.{none_unfinished, none_unfinished_in}
use Rattle.ot_depend.proofs.ReadyLemmas.{is_ready-told}
use Rattle.ot_job_roster.proofs.ListedLemmas.{passing-some}
use Rattle.ot_job.proofs.AwaitsLemmas.{held-unfinished}
use Rattle.ot_job.proofs.AwakeLemmas.{none-counted}
use Rattle.ot_job.proofs.RightsLemmas.{at-whole}
use Rattle.ot_job.proofs.WellLemmas.{none-running}

-- ---- a job that hasn't ended, and of which no piece is out, has a task that may be claimed

abbrev pub AllFinished : List Sibling → Type 0
AllFinished kids = (k : ℕ) (s : Sibling) → slice_get kids k ≡ Some s → s.finished ≡ true

pub record Least (kids : List Sibling) (k : ℕ) : Type 0 where
  pub entry : Sibling
  pub there : slice_get kids k ≡ Some entry
  pub unfinished : entry.finished ≡ false
  pub first : (l : ℕ) (t : Sibling) → l < k → slice_get kids l ≡ Some t → t.finished ≡ true

least : (kids : List Sibling) → AllFinished kids ⊎ ((k : ℕ) × Least kids k)
least [] = inl (λ k s h. cc)
least (x ∷ kids) = pick (cases_Bool x.finished) (least kids)
  where
    pick : (x.finished ≡ true) ⊎ (x.finished ≡ false) → AllFinished kids ⊎ ((k : ℕ) × Least kids k) → AllFinished (x ∷ kids) ⊎ ((k : ℕ) × Least (x ∷ kids) k)
    pick (inr e) more = inr (0, record { entry = x; there = refl; unfinished = e; first = λ l t below h. absurd (omega (arith, below)) })
    pick (inl e) (inl all) = inl every
      where
        every : (k : ℕ) (s : Sibling) → slice_get (x ∷ kids) k ≡ Some s → s.finished ≡ true
        every zero s h = let same : x ≡ s = cc in ap (λ (y : Sibling). y.finished) (sym same) ∙ e
        every (suc k) s h = all k s h
    pick (inl e) (inr (k, l)) = inr (suc k, record { entry = l.entry; there = l.there; unfinished = l.unfinished; first = earlier })
      where
        earlier : (n : ℕ) (t : Sibling) → n < suc k → slice_get (x ∷ kids) n ≡ Some t → t.finished ≡ true
        earlier zero t below h = let same : x ≡ t = cc in ap (λ (y : Sibling). y.finished) (sym same) ∙ e
        earlier (suc n) t below h = l.first n t (omega (arith, below)) h

-- the first that hasn't finished is ready
ready-least : (kids : List Sibling) (k : ℕ) → Least kids k → IsReady kids k
ready-least kids k l = record { itself = l.entry; known = l.there; awaited = λ place earlier below there depends. l.first place earlier below there }

-- it hasn't ended, is ready, and awaits nobody
pub record Free (rs : List Region) (i : ℕ) : Type 0 where
  pub within : i < length rs
  pub alive : ended_at rs i ≡ false
  pub begun : IsRootOrReady rs i
  pub awaits_none : AllFinished (at rs i).children

module _ (rs : List Region) (s : IsSoundRegions rs) where
  -- the first unfinished child of a task
  child_of : (p k : ℕ) → p < length rs → Least (at rs p).children k → (i : ℕ) × (p < i) × (i < length rs) × (ended_at rs i ≡ false) × IsRootOrReady rs i
  child_of p k within l =
      let o = s.entries p k l.entry l.there in
      let kin = s.kin o.task o.below o.known in
      let there : slice_get (at rs p).children k ≡ Some kin.entry = ap (λ n. slice_get (at rs n).children k) (sym o.of) ∙ ap (slice_get (at rs (parent_of rs o.task)).children) (sym o.is) ∙ kin.there in
      let same : kin.entry ≡ l.entry = same_Some kin.entry l.entry (sym there ∙ l.there) in (
        o.task,
        omega (arith, s.down o.task o.below, o.of),
        o.known,
        sym kin.finished ∙ ap (λ (y : Sibling). y.finished) same ∙ l.unfinished,
        λ pos. (o.known, subst (λ n. IsReady (at rs n).children (at rs o.task).child) (sym o.of) (subst (IsReady (at rs p).children) (sym o.is) (ready-least (at rs p).children k l))),
      )

  go : (fuel i : ℕ) → length rs ≤ i + fuel → i < length rs → ended_at rs i ≡ false → IsRootOrReady rs i → (j : ℕ) × Free rs j
  go zero i enough within alive begun = absurd (omega (arith, enough, within))
  go (suc fuel) i enough within alive begun = pick (λ j lt w a b. go fuel j (omega (arith, enough, lt)) w a b) (least (at rs i).children)
    where
      pick : ((j : ℕ) → i < j → j < length rs → ended_at rs j ≡ false → IsRootOrReady rs j → (n : ℕ) × Free rs n)
          → AllFinished (at rs i).children ⊎ ((k : ℕ) × Least (at rs i).children k) → (j : ℕ) × Free rs j
      pick next (inl all) = (i, record { within = within; alive = alive; begun = begun; awaits_none = all })
      pick next (inr (k, l)) = let c = child_of i k within l in next c.0 c.1 c.2 c.3 c.4

  -- whoever hasn't ended leads to one that is free
  pub never_stuck : (i : ℕ) → i < length rs → ended_at rs i ≡ false → (j : ℕ) × Free rs j
  never_stuck zero within alive = go (length rs) 0 (omega arith) within alive (λ pos. absurd (omega (arith, pos)))
  never_stuck (suc i) within alive =
      let kin = s.kin (suc i) (omega arith) within in
      let below = s.down (suc i) (omega arith) in
      pick kin below (least (at rs (parent_of rs (suc i))).children)
    where
      pick : IsKin rs (suc i) → parent_of rs (suc i) < suc i → AllFinished (at rs (parent_of rs (suc i))).children ⊎ ((k : ℕ) × Least (at rs (parent_of rs (suc i))).children k) → (j : ℕ) × Free rs j
      pick kin below (inl all) = absurd (true≢false (sym (all (at rs (suc i)).child kin.entry kin.there) ∙ kin.finished ∙ alive))
      pick kin below (inr (k, l)) =
          let c = child_of (parent_of rs (suc i)) k (omega (arith, below, within)) l in
          go (length rs) c.0 (omega arith) c.2 c.3 c.4

-- ---- a job that is not ended, and of which no piece is out, has a task that is claimable

-- ---- who is not ended

one-left : (rs : List Region) → all_ended rs ≡ false → (i : ℕ) × (i < length rs) × ((at rs i).ended ≡ false)
one-left [] h = absurd (true≢false h)
one-left (r ∷ rs) h = by r.ended refl (λ g. one-left rs g)
  where
    by : (b : Bool) → r.ended ≡ b → (all_ended rs ≡ false → (i : ℕ) × (i < length rs) × ((at rs i).ended ≡ false)) → (i : ℕ) × (i < suc (length rs)) × ((at (r ∷ rs) i).ended ≡ false)
    by true e more = let m = more (ap (λ b. b && all_ended rs) (sym e) ∙ h) in (suc m.0, omega (arith, m.1), m.2)
    by false e more = (0, omega arith, e)

pub none-out : (rs : List Region) → any_out rs ≡ false → (i : ℕ) → (at rs i).running ≡ None
none-out [] h i = refl
none-out (r ∷ rs) h zero = none-running r.running (or_false_left (is_some r.running) (any_out rs) h)
none-out (r ∷ rs) h (suc i) = none-out rs (or_false_right (is_some r.running) (any_out rs) h) i

-- ---- who is free is claimable

all-from : (kids : List Sibling) → AllFinished kids → All (λ s. IsTrue s.finished) kids
all-from kids all k d within = all k (get_or kids k d) (there kids k d within)
  where
    there : (kids : List Sibling) (k : ℕ) (d : Sibling) → k < length kids → slice_get kids k ≡ Some (get_or kids k d)
    there [] k d within = absurd (omega (arith, within))
    there (s ∷ kids) zero d within = refl
    there (s ∷ kids) (suc k) d within = there kids k d (omega (arith, within))

zero-is : (n : ℕ) → n ≡ 0 → (n == 0) ≡ true
zero-is n e = grind (arith, nat_tests)

lets-go : (r : Region) → AllFinished r.children → is_let_go r ≡ true
lets-go r all =
    and_true (not (is_held r.waiting r.children)) (end_lets_go r.rest r.groups r.children)
    (ap not (held-unfinished r.waiting r.children (none-counted is_unfinished r.children ((none_unfinished r.children).1 (all-from r.children all)))))
    (at-end r.rest r.groups)
  where
    at-end : (rest : Body) (gs : List Open) → end_lets_go rest gs r.children ≡ true
    at-end End [] = refl
    at-end (Next x rest) gs = refl
    at-end End (o ∷ os) = zero-is (count_by (is_unfinished_in o.group) r.children) ((none_unfinished_in o.group r.children).1 (λ k d within here. all-from r.children all k d within))

module _ (rs : List Region) (out : any_out rs ≡ false) (i : ℕ) (f : Free (wholes rs) i) where
  r : Region
  r = at rs i

  whole-at : at (wholes rs) i ≡ whole_region (at rs i)
  whole-at = at-whole rs i

  free-claimable : is_claimable rs i ≡ true
  free-claimable =
      and_true (not (at rs i).ended && not (is_some (at rs i).running)) (((i == 0) || is_ready (at rs (at rs i).parent).children (at rs i).child) && is_let_go (at rs i))
      (and_true (not (at rs i).ended) (not (is_some (at rs i).running)) (ap not (ap (λ (x : Region). x.ended) (sym whole-at) ∙ f.alive)) (ap (λ o. not (is_some o)) (none-out rs out i)))
      (and_true ((i == 0) || is_ready (at rs (at rs i).parent).children (at rs i).child) (is_let_go (at rs i)) (begun i refl)
      (lets-go (at rs i) (subst (λ (x : Region). AllFinished x.children) whole-at f.awaits_none)))
    where
      begun : (n : ℕ) → i ≡ n → ((i == 0) || is_ready (at rs (at rs i).parent).children (at rs i).child) ≡ true
      begun zero e = ap (λ b. b || is_ready (at rs (at rs i).parent).children (at rs i).child) (zero-is i e)
      begun (suc n) e =
          let ready = (f.begun (omega (arith, e))).1 in
          let up : parent_of (wholes rs) i ≡ (at rs i).parent = ap (λ (x : Region). x.parent) whole-at in
          let table : (at (wholes rs) (parent_of (wholes rs) i)).children ≡ (at rs (at rs i).parent).children =
          ap (λ m. (at (wholes rs) m).children) up ∙ ap (λ (x : Region). x.children) (at-whole rs (at rs i).parent) in
          let child : (at (wholes rs) i).child ≡ (at rs i).child = ap (λ (x : Region). x.child) whole-at in
          let told : is_ready (at rs (at rs i).parent).children (at rs i).child ≡ true =
          ap (λ kids. is_ready kids (at rs i).child) (sym table) ∙ ap (is_ready (at (wholes rs) (parent_of (wholes rs) i)).children) (sym child)
          ∙ sym (is_ready-told true (at (wholes rs) (parent_of (wholes rs) i)).children (at (wholes rs) i).child ((λ t. ready), λ t. refl)) in
          or_right (i == 0) (is_ready (at rs (at rs i).parent).children (at rs i).child) told

pub has-claimable : (j : Live) → IsWell j → j.failing ≡ false → all_ended j.regions ≡ false → any_out j.regions ≡ false → 0 < length (claimable_of j.regions)
has-claimable j w working left out =
    let o = w.course working in
    let one = one-left j.regions left in
    let f = never_stuck (wholes j.regions) o.sound one.0 (omega (arith, one.1, length-map j.regions whole_region)) (ap (λ (x : Region). x.ended) (at-whole j.regions one.0) ∙ one.2) in
    passing-some (is_claimable j.regions) (length j.regions) f.0 (omega (arith, f.1.within, length-map j.regions whole_region)) (free-claimable j.regions out f.0 f.1)

pub state-working : (j : Live) → state_in j ≡ Working → (j.failing ≡ false) × (all_ended j.regions ≡ false)
state-working j h = by j.failing (any_out j.regions) (all_ended j.regions) h
  where
    by : (f a e : Bool) → (if f then (if a then Failing else Failed) else if e then Ended else Working) ≡ Working → (f ≡ false) × (e ≡ false)
    by false a false h = (refl, refl)
    by true true e h = cc
    by f a e h = cc
