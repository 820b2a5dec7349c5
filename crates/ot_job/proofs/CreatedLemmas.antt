-- A task that is created leaves what holds of its parent's region, and who is whose child.
use Rattle.std.proofs.Common.{◌≡◌, ℕ, zero, suc, Bool, true, false, not, ◌&&◌, ◌||◌, List, [], ◌∷◌, ◌++◌, map, length, refl, sym, ap, subst, ◌∙◌, ◌⊎◌, inl, inr, ⊎_elim, true≢false, ◌==◌, Some, slice_get, ◌≢◌, ◌+◌, ◌<◌, ◌≤◌, arith, length-append}
use Rattle.ot_job.proofs.Common.{Waiting, Region, with_rest, with_child, is_awaited_at, list_any, same_Some, Body, End, Next, Task, Cell, Operation, Mode, Reads, Writes, Folds, same_fold, Use, Sibling, sibling_created, is_unfinished, is_in, use_as, EachTouch, EachTask, Declared, allows, folds_to, has_cell, ReductionMisuse, or_true, true_or, or_right, and_left, and_right, and_true, IsClean, Open, todo, openings_of, children_of, IsFineAt, AwaitsAll, unfinished_unawaited, DontMix, LetsAll, NamedOnce, OnlyFolds, IsSoundRegion, grouped_in, cases_eq, slice_get_within, updated, length-updated, IsReady, new_region, at, parent_of, IsRootOrReady, IsKin, IsSoundRegions, slice_get-push, empty_region}
use Rattle.std.proofs.lemmas.List.Folds.{list_any-append}
use Rattle.ot_check.specs.Offences.{exceeds, misfits}
use Rattle.ot_check.specs.declared.fault.Offence.TheVariants.{ChildBeyond}
use Rattle.ot_check.proofs.Cited.{is_offence-ChildBeyond, is_offence-ReductionMisuse, child_fits, fits-folds, fits-reads, eq_itself, slice_get-last}
use Rattle.ot_depend.proofs.SiblingsLemmas.{IsReady-push}
use Rattle.ot_job.proofs.FoldLemmas.{one-op, writes-all, declares-fold, only-unwritten}
use Rattle.ot_job.proofs.KeptLemmas.{todo-next, at-updated, at-updated-other, at-more, at-new}
use Rattle.ot_job.proofs.EachLemmas.{field-kept, more-by_number}

-- ---- a task that is created leaves what holds of its parent's region

-- ---- the groups that are open at the creation

-- a child is created in each open group that names a cell
opened-grouped : (gs : List Open) (d : List Use) (groups : List ℕ) (o : Operation) (c : Cell) → ((g : ℕ) → list_any (λ h. h == g) (map (λ o. o.group) gs) ≡ true → list_any (λ h. h == g) groups ≡ true)
    → openings_of gs o c ≡ true → grouped_in gs (sibling_created d groups) o c ≡ true
opened-grouped [] d groups o c in_all h = h
opened-grouped (g ∷ gs) d groups o c in_all h =
    elim (or_true (openings_of gs o c) (same_fold g.op o && has_cell g.cells c) h) [
      | inl outer ↦ or_right ((same_fold g.op o && has_cell g.cells c) && is_in g.group (sibling_created d groups)) (grouped_in gs (sibling_created d groups) o c)
          (opened-grouped gs d groups o c (λ n there. in_all n (or_right (g.group == n) (list_any (λ h. h == n) (map (λ o. o.group) gs)) there)) outer)
      | inr here ↦ true_or ((same_fold g.op o && has_cell g.cells c) && is_in g.group (sibling_created d groups)) (grouped_in gs (sibling_created d groups) o c)
          (and_true (same_fold g.op o && has_cell g.cells c) (is_in g.group (sibling_created d groups)) here (in_all g.group (true_or (g.group == g.group) _ (eq_itself g.group))))
    ]

pub grouped-opened : (gs : List Open) (s : Sibling) (o : Operation) (c : Cell) → grouped_in gs s o c ≡ true → openings_of gs o c ≡ true
grouped-opened [] s o c h = h
grouped-opened (g ∷ gs) s o c h =
    elim (or_true ((same_fold g.op o && has_cell g.cells c) && is_in g.group s) (grouped_in gs s o c) h) [
      | inl here ↦ or_right (openings_of gs o c) (same_fold g.op o && has_cell g.cells c) (and_left (same_fold g.op o && has_cell g.cells c) (is_in g.group s) here)
      | inr outer ↦ true_or (openings_of gs o c) (same_fold g.op o && has_cell g.cells c) (grouped-opened gs s o c outer)
    ]

-- groups of which no two name one cell name it by one operation
pub opened-alike : (gs : List Open) → NamedOnce gs → (o p : Operation) (c : Cell) → openings_of gs o c ≡ true → openings_of gs p c ≡ true → o ≡ p
opened-alike [] once o p c h k = absurd (true≢false (sym h))
opened-alike (g ∷ gs) once o p c h k =
    elim (or_true (openings_of gs o c) (same_fold g.op o && has_cell g.cells c) h) [
      | inl outer ↦ elim (or_true (openings_of gs p c) (same_fold g.op p && has_cell g.cells c) k) [
        | inl other ↦ opened-alike gs once.1 o p c outer other
        | inr here ↦ absurd (true≢false (sym outer ∙ once.0 o c (and_right (same_fold g.op p) (has_cell g.cells c) here)))
      ]
      | inr here ↦ elim (or_true (openings_of gs p c) (same_fold g.op p && has_cell g.cells c) k) [
        | inl outer ↦ absurd (true≢false (sym outer ∙ once.0 p c (and_right (same_fold g.op o) (has_cell g.cells c) here)))
        | inr other ↦ sym (one-op g.op o (and_left (same_fold g.op o) (has_cell g.cells c) here)) ∙ one-op g.op p (and_left (same_fold g.op p) (has_cell g.cells c) other)
      ]
    ]

-- ---- the children, one more

-- a place of a list with one item more
more-place : {A : Type 0} (P : ℕ → A → Type 0) (xs : List A) (x : A) → ((k : ℕ) (y : A) → slice_get xs k ≡ Some y → P k y) → P (length xs) x
    → (k : ℕ) (y : A) → slice_get (xs ++ x ∷ []) k ≡ Some y → P k y
more-place P [] x old new zero y h = subst (P 0) (same_Some x y h) new
more-place P [] x old new (suc k) y h = cc
more-place P (z ∷ xs) x old new zero y h = old 0 y h
more-place P (z ∷ xs) x old new (suc k) y h = more-place (λ n. P (suc n)) xs x (λ n w g. old (suc n) w g) new k y h

pub kids-more : (waiting : Waiting) (kids : List Sibling) (new : Sibling) (test : Sibling → Bool) → unfinished_unawaited waiting (kids ++ new ∷ []) test ≡ true
    → (unfinished_unawaited waiting kids test || test new) ≡ true
kids-more waiting kids new test h =
    let left = λ (s : Sibling). is_unfinished s && (not (is_awaited_at waiting s) && test s) in
    bits (list_any left kids) (is_unfinished new) (not (is_awaited_at waiting new)) (test new) (sym (list_any-append left kids (new ∷ [])) ∙ h)
  where
    bits : (a u n t : Bool) → (a || ((u && (n && t)) || false)) ≡ true → (a || t) ≡ true
    bits true u n t h = refl
    bits false true true true h = refl
    bits false true true false h = h
    bits false true false t h = absurd (true≢false (sym h))
    bits false false n t h = absurd (true≢false (sym h))

module _ (r : Region) (p : IsSoundRegion r) (d : List Use) (b rest : Body) (was : r.rest ≡ Next (Task d b) rest)
    (clean : (own : Declared) → own ≡ r.own → IsClean own (openings_of r.groups) (children_of (unfinished_unawaited r.waiting r.children)) (Task d b))
    (exclusive : (o : Operation) (c : Cell) → folds_to (Some d) o c ≡ true → OnlyFolds o (Some d) c)
  where
    abbrev pub next : Region
    next = with_child d (with_rest rest r)

    abbrev pub new : Sibling
    new = sibling_created d (map (λ o. o.group) r.groups)

    exceed : list_any (exceeds r.own) d ≡ false
    exceed = sym (is_offence-ChildBeyond r.own (openings_of r.groups) (children_of (unfinished_unawaited r.waiting r.children)) d b) ∙ clean r.own refl ChildBeyond

    misfit : list_any (misfits r.own (openings_of r.groups)) d ≡ false
    misfit = sym (is_offence-ReductionMisuse r.own (openings_of r.groups) (children_of (unfinished_unawaited r.waiting r.children)) d b) ∙ clean r.own refl ReductionMisuse

    may : (u : Use) → allows (Some d) u ≡ true → allows r.own u ≡ true
    may u h = child_fits r.own (openings_of r.groups) d p.writes exceed misfit u h

    fits : (o : Operation) (c : Cell) → folds_to (Some d) o c ≡ true → (folds_to r.own o c ≡ true) ⊎ (openings_of r.groups o c ≡ true)
    fits o c h = fits-folds r.own (openings_of r.groups) d o c misfit h

    grouped_new : (o : Operation) (c : Cell) → folds_to (Some d) o c ≡ true → (folds_to r.own o c ≡ true) ⊎ (grouped_in r.groups new o c ≡ true)
    grouped_new o c h = ⊎_elim (λ e. inl e) (λ e. inr (opened-grouped r.groups d (map (λ o. o.group) r.groups) o c (λ g k. k) e)) (fits o c h)

    -- of a cell of an open group the new child may do no more than fold by the group's operation
    only_new : (o : Operation) (c : Cell) → openings_of r.groups o c ≡ true → OnlyFolds o (Some d) c
    only_new o c here m h = by m h
      where
        unread : allows (Some d) (use_as Reads c) ≡ false
        unread = fits-reads r.own (openings_of r.groups) d o c misfit here

        by : (m : Mode) → allows (Some d) (use_as m c) ≡ true → m ≡ Folds o
        by Reads h = absurd (true≢false (sym h ∙ unread))
        by Writes h = absurd (true≢false (sym (writes-all (Some d) c Reads h) ∙ unread))
        by (Folds q) h = ⊎_elim (λ own. absurd (only-unwritten q r.own c (p.exclusive q c own) (p.writes o c here)))
            (λ grouped. ap Folds (opened-alike r.groups p.once q o c grouped here)) (fits q c (declares-fold d q c h unread))

    -- the new child folds by the same operation what an older one folds, and does nothing else with it
    new_old : (k : ℕ) (s : Sibling) → slice_get r.children k ≡ Some s → s.finished ≡ false → DontMix d s.uses
    new_old k s there alive o c folds m h =
        ⊎_elim (λ own. p.exclusive o c own m (may (use_as m c) h))
        (λ grouped. only_new o c (grouped-opened r.groups s o c grouped) m h)
        (p.grouped k s there alive o c folds)

    -- and folds nothing that an older one uses otherwise
    old_new : (k : ℕ) (s : Sibling) → slice_get r.children k ≡ Some s → s.finished ≡ false → DontMix s.uses d
    old_new k s there alive o c folds m h =
        ⊎_elim (λ own. p.exclusive o c own m (p.within k s there (use_as m c) h))
        (λ grouped. p.reduced k s there alive o c grouped m h)
        (fits o c folds)

    own_new : DontMix d d
    own_new = exclusive

    pub placed-parent : IsFineAt next.own (unfinished_unawaited next.waiting next.children) next.rest next.groups
        → ((uses : List Use) → r.own ≡ Some uses → AwaitsAll (unfinished_unawaited next.waiting next.children) next.rest next.groups) → IsSoundRegion next
    placed-parent fine awaits = record {
      fine = fine;
      inside = (subst (EachTouchAll r.own) (ap (λ x. todo x r.groups) was ∙ todo-next (Task d b) rest r.groups) p.inside).1;
      tasks = (subst (EachTask LetsAll) (ap (λ x. todo x r.groups) was ∙ todo-next (Task d b) rest r.groups) p.tasks).1;
      awaits = awaits;
      within = more-place (λ k s. (u : Use) → allows (Some s.uses) u ≡ true → allows r.own u ≡ true) r.children new p.within may;
      apart = λ k l s t. pairs k s l t;
      over = λ e. absurd (never (sym (sym (ap (λ x. todo x r.groups) was ∙ todo-next (Task d b) rest r.groups) ∙ p.over e)));
      shut = p.shut;
      once = p.once;
      writes = p.writes;
      grouped = more-place (λ k s. s.finished ≡ false → (o : Operation) (c : Cell) → folds_to (Some s.uses) o c ≡ true → (folds_to r.own o c ≡ true) ⊎ (grouped_in r.groups s o c ≡ true)) r.children new p.grouped (λ alive. grouped_new);
      reduced = more-place (λ k s. s.finished ≡ false → (o : Operation) (c : Cell) → openings_of r.groups o c ≡ true → OnlyFolds o (Some s.uses) c) r.children new p.reduced (λ alive. only_new);
      exclusive = p.exclusive;
    }
      where
        EachTouchAll : Declared → Body → Type 0
        EachTouchAll own x = EachTouch (λ u. allows own u ≡ true) x

        never : {x : _} {y : Body} → End ≡ Next x y → ⊥
        never e = cc

        pairs : (k : ℕ) (s : Sibling) (l : ℕ) (t : Sibling) → slice_get next.children k ≡ Some s → slice_get next.children l ≡ Some t → s.finished ≡ false → t.finished ≡ false → DontMix s.uses t.uses
        pairs k s l t hs ht =
            more-place (λ k s. s.finished ≡ false → t.finished ≡ false → DontMix s.uses t.uses) r.children new
            (λ k s gs. more-place (λ l t. s.finished ≡ false → t.finished ≡ false → DontMix s.uses t.uses) r.children new (λ l t gt. p.apart k l s t gs gt) (λ a z. old_new k s gs a) l t ht)
            (more-place (λ l t. false ≡ false → t.finished ≡ false → DontMix d t.uses) r.children new (λ l t gt z a. new_old l t gt a) (λ z a. own_new) l t ht)
            k s hs

-- ---- a task that is created leaves who is whose child

module _ (rs : List Region) (i : ℕ) (h : i < length rs) (uses : List Use) (body : Body) where
  abbrev pub child : ℕ
  child = length (at rs i).children

  abbrev pub more : List Region
  more = updated rs i (with_child uses) ++ new_region i child uses body ∷ []

  pub n-long : length (updated rs i (with_child uses)) ≡ length rs
  n-long = length-updated rs i (with_child uses)

  pub long : length more ≡ length rs + 1
  long = length-append (updated rs i (with_child uses)) (new_region i child uses body ∷ []) ∙ ap (λ n. n + 1) n-long

  pub at-old : (j : ℕ) → j < length rs → at more j ≡ at (updated rs i (with_child uses)) j
  at-old j l = at-more (updated rs i (with_child uses)) (new_region i child uses body) j (omega (arith, n-long, l))

  pub at-fresh : at more (length rs) ≡ new_region i child uses body
  at-fresh = ap (at more) (sym n-long) ∙ at-new (updated rs i (with_child uses)) (new_region i child uses body)

  pub at-parent : at more i ≡ with_child uses (at rs i)
  at-parent = at-old i h ∙ at-updated rs i (with_child uses) h

  pub at-others : (j : ℕ) → j < length rs → j ≢ i → at more j ≡ at rs j
  at-others j l other = at-old j l ∙ at-updated-other rs i j (with_child uses) other

  -- another task, the parent, the new one, or none
  pub at-each-one : (P : ℕ → Region → Type 0) → ((j : ℕ) → j < length rs → j ≢ i → P j (at rs j)) → P i (with_child uses (at rs i)) → P (length rs) (new_region i child uses body)
      → ((j : ℕ) → length rs < j → P j empty_region) → (j : ℕ) → P j (at more j)
  at-each-one P others parent fresh past =
      more-by_number P (updated rs i (with_child uses)) (new_region i child uses body) (λ j l. elim (cases_eq j i) [
        | inl e ↦ subst (λ n. P n (at (updated rs i (with_child uses)) n)) (sym e) (subst (P i) (sym (at-updated rs i (with_child uses) h)) parent)
        | inr other ↦ subst (P j) (sym (at-updated-other rs i j (with_child uses) other)) (others j (omega (arith, l, n-long)) other)
      ]) (subst (λ n. P n (new_region i child uses body)) (sym n-long) fresh) (λ j l. past j (omega (arith, l, n-long)))

  -- each field but the children is as before
  pub same-field : {A : Type 0} (f : Region → A) → ((r : Region) → f (with_child uses r) ≡ f r) → (j : ℕ) → j < length rs → f (at more j) ≡ f (at rs j)
  same-field f keeps j l = ap f (at-old j l) ∙ field-kept f (with_child uses) keeps rs i j

  -- an entry stays in its table
  entry-kept : (p k : ℕ) (s : Sibling) → p < length rs → slice_get (at rs p).children k ≡ Some s → slice_get (at more p).children k ≡ Some s
  entry-kept p k s l there = elim (cases_eq p i) [
    | inl e ↦ ap (λ n. slice_get (at more n).children k) e ∙ ap (λ (r : Region). slice_get r.children k) at-parent
        ∙ (let here : slice_get (at rs i).children k ≡ Some s = subst (λ n. slice_get (at rs n).children k ≡ Some s) e there in
        slice_get-push (at rs i).children (sibling_created uses (map (λ o. o.group) (at rs i).groups)) k (slice_get_within (at rs i).children k s here) ∙ here)
    | inr e ↦ ap (λ (r : Region). slice_get r.children k) (at-others p l e) ∙ there
  ]

  module _ (s : IsSoundRegions rs) where
    pub kin-more : (j : ℕ) → 0 < j → j < length more → IsKin more j
    kin-more j pos l = let (entry, there, uses, finished) = at-each-one KinOf (λ j below other pos l. old j below pos) (λ pos l. old i h pos) (λ pos l. fresh)
        (λ j past pos l. absurd (omega (arith, past, l, long))) j pos l in record { entry = entry; there = there; uses = uses; finished = finished }
      where
        KinOf : ℕ → Region → Type 0
        KinOf j r = 0 < j → j < length more → (entry : Sibling) × (slice_get (at more r.parent).children r.child ≡ Some entry) × (r.own ≡ Some entry.uses) × (entry.finished ≡ r.ended)

        old : (j : ℕ) → j < length rs → 0 < j → (entry : Sibling) × (slice_get (at more (parent_of rs j)).children (at rs j).child ≡ Some entry) × ((at rs j).own ≡ Some entry.uses) × (entry.finished ≡ (at rs j).ended)
        old j below pos = let k = s.kin j pos below in (k.entry, entry-kept (parent_of rs j) (at rs j).child k.entry (omega (arith, s.down j pos, below)) k.there, k.uses, k.finished)

        fresh : (entry : Sibling) × (slice_get (at more i).children child ≡ Some entry) × (Some uses ≡ Some entry.uses) × (entry.finished ≡ false)
        fresh = (sibling_created uses (map (λ o. o.group) (at rs i).groups), ap (λ (r : Region). slice_get r.children child) at-parent ∙ slice_get-last (at rs i).children _, refl, refl)

    pub begun-more : (j : ℕ) → j < length rs → IsRootOrReady rs j → IsRootOrReady more j
    begun-more j l begun pos =
        let b = begun pos in
        let p = same-field (λ r. r.parent) (λ r. refl) j l in
        let c = same-field (λ r. r.child) (λ r. refl) j l in (
          omega (arith, b.0, longer),
          subst (λ n. IsReady (at more n).children (at more j).child) (sym p)
              (subst (IsReady (at more (parent_of rs j)).children) (sym c) (ready (parent_of rs j) (at rs j).child (omega (arith, s.down j pos, l)) b.1)),
        )
      where
        longer : length rs ≤ length more
        longer = omega (arith, long)

        ready : (q k : ℕ) → q < length rs → IsReady (at rs q).children k → IsReady (at more q).children k
        ready q k below r = elim (cases_eq q i) [
          | inl e ↦ subst (λ n. IsReady (at more n).children k) (sym e)
              (subst (λ (x : Region). IsReady x.children k) (sym at-parent) (IsReady-push (at rs i).children _ k (subst (λ n. IsReady (at rs n).children k) e r)))
          | inr e ↦ subst (λ (x : Region). IsReady x.children k) (sym (at-others q below e)) r
        ]
