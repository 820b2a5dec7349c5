-- A task ends its body, and its parent's table tells so: what holds of the regions stays.
use Rattle.std.proofs.Common.{◌≡◌, ◌≢◌, ℕ, zero, suc, ◌<◌, Bool, true, false, not, ◌&&◌, ◌||◌, List, [], ◌∷◌, length, refl, sym, ap, subst, ◌∙◌, ◌⊎◌, inl, inr, arith, true≢false, None, option_map, Some, slice_get, ◌==◌, ⊎_elim}
use Rattle.ot_job.proofs.Common.{is_awaited_at, list_any, cases_eq, cases_lt, End, updated, Use, length-updated, Sibling, is_unfinished, with_finished, IsReady, is_in, or_right, Cell, Operation, same_fold, allows, folds_to, has_cell, Open, todo, AwaitsAll, unfinished_unawaited, Region, over, without, told_parent, region_ended_at, at, parent_of, todo_at, ended_at, parents, DontMix, OnlyFolds, grouped_in, IsRootOrReady, IsKin, IsSoundRegion, IsSoundRegions}
use Rattle.std.proofs.lemmas.Bool.{true_from_ne_false}
use Rattle.ot_model.proofs.CellsLemmas.{slice_get-updated, slice_get-updated-other}
use Rattle.ot_check.proofs.Bits.{or_more}
use Rattle.ot_depend.proofs.SiblingsLemmas.{IsReady-finished}
use Rattle.ot_job.proofs.PlaceLemmas.{at-fewer, kid-none}
use Rattle.ot_job.proofs.AwaitsLemmas.{awaits-fewer, awaits-end}
use Rattle.ot_job.proofs.KeptLemmas.{at-updated, at-updated-other, parents-updated}
use Rattle.ot_job.proofs.EachLemmas.{at-each, field-kept, told-by}
use Rattle.ot_job.proofs.ChangedLemmas.{placed-as}

-- ---- a table that tells of one more

-- an entry as it was before
pub record Before (kids : List Sibling) (k : ℕ) (s : Sibling) : Type 0 where
  pub entry : Sibling
  pub there : slice_get kids k ≡ Some entry
  pub uses : s.uses ≡ entry.uses
  pub groups : s.groups ≡ entry.groups
  pub unfinished : s.finished ≡ false → entry.finished ≡ false
  pub finished : entry.finished ≡ true → s.finished ≡ true

itself : (kids : List Sibling) (k : ℕ) (s : Sibling) → slice_get kids k ≡ Some s → Before kids k s
itself kids k s h = record { entry = s; there = h; uses = refl; groups = refl; unfinished = λ e. e; finished = λ e. e }

before : (kids : List Sibling) (c k : ℕ) (s : Sibling) → slice_get (with_finished kids c) k ≡ Some s → Before kids k s
before [] c k s h = cc
before (x ∷ kids) zero zero s h =
    let is : record x { finished = true } ≡ s = cc in
    record {
      entry = x;
      there = refl;
      uses = ap (λ (y : Sibling). y.uses) (sym is);
      groups = ap (λ (y : Sibling). y.groups) (sym is);
      unfinished = λ e. absurd (true≢false (ap (λ (y : Sibling). y.finished) is ∙ e));
      finished = λ e. ap (λ (y : Sibling). y.finished) (sym is);
    }
before (x ∷ kids) zero (suc k) s h = itself (x ∷ kids) (suc k) s h
before (x ∷ kids) (suc c) zero s h = itself (x ∷ kids) zero s h
before (x ∷ kids) (suc c) (suc k) s h =
    let b = before kids c k s h in
    record { entry = b.entry; there = b.there; uses = b.uses; groups = b.groups; unfinished = b.unfinished; finished = b.finished }

told : (kids : List Sibling) (c : ℕ) (s : Sibling) → slice_get kids c ≡ Some s → slice_get (with_finished kids c) c ≡ Some (record s { finished = true })
told kids c s h = slice_get-updated kids c (λ x. record x { finished = true }) ∙ ap (option_map (λ (x : Sibling). record x { finished = true })) h

untold : (kids : List Sibling) (c k : ℕ) (s : Sibling) → k ≢ c → slice_get kids k ≡ Some s → slice_get (with_finished kids c) k ≡ Some s
untold kids c k s other h = slice_get-updated-other kids c k (λ x. record x { finished = true }) (λ e. other (sym e)) ∙ h

fewer-any : (kids : List Sibling) (c : ℕ) (test : Sibling → Bool)
    → list_any (λ s. is_unfinished s && test s) (with_finished kids c) ≡ true → list_any (λ s. is_unfinished s && test s) kids ≡ true
fewer-any [] c test h = h
fewer-any (x ∷ kids) zero test h = or_right (is_unfinished x && test x) (list_any (λ s. is_unfinished s && test s) kids) h
fewer-any (x ∷ kids) (suc c) test h =
    or_more (is_unfinished x && test x) (list_any (λ s. is_unfinished s && test s) (with_finished kids c)) (is_unfinished x && test x) (list_any (λ s. is_unfinished s && test s) kids) (λ e. e) (fewer-any kids c test) h

-- ---- one region

grouped-same : (gs : List Open) (s t : Sibling) (o : Operation) (c : Cell) → s.groups ≡ t.groups → grouped_in gs s o c ≡ grouped_in gs t o c
grouped-same [] s t o c e = refl
grouped-same (g ∷ gs) s t o c e =
    ap (λ groups. ((same_fold g.op o && has_cell g.cells c) && list_any (λ h. h == g.group) groups) || grouped_in gs s o c) e
    ∙ ap (λ b. ((same_fold g.op o && has_cell g.cells c) && is_in g.group t) || b) (grouped-same gs s t o c e)

-- a child of it has finished
placed-without : (c : ℕ) (r : Region) → IsSoundRegion r → IsSoundRegion (without c r)
placed-without c r p = record {
  fine = at-fewer r.own (unfinished_unawaited r.waiting (with_finished r.children c)) (unfinished_unawaited r.waiting r.children) r.rest r.groups fewer p.fine;
  inside = p.inside;
  tasks = p.tasks;
  awaits = λ uses own. awaits-fewer (unfinished_unawaited r.waiting (with_finished r.children c)) (unfinished_unawaited r.waiting r.children) r.rest r.groups fewer (p.awaits uses own);
  within = λ k s there u may.
      let b = before r.children c k s there in
      p.within k b.entry b.there u (subst (λ us. allows (Some us) u ≡ true) b.uses may);
  apart = λ k l s t hs ht fs ft.
      let b = before r.children c k s hs in let d = before r.children c l t ht in
      subst (λ us. DontMix us t.uses) (sym b.uses) (subst (DontMix b.entry.uses) (sym d.uses) (p.apart k l b.entry d.entry b.there d.there (b.unfinished fs) (d.unfinished ft)));
  over = p.over;
  shut = p.shut;
  once = p.once;
  writes = p.writes;
  grouped = λ k s there alive o cell folds.
      let b = before r.children c k s there in
      subst (λ v. (folds_to r.own o cell ≡ true) ⊎ (v ≡ true)) (sym (grouped-same r.groups s b.entry o cell b.groups))
      (p.grouped k b.entry b.there (b.unfinished alive) o cell (subst (λ us. folds_to (Some us) o cell ≡ true) b.uses folds));
  reduced = λ k s there alive o cell here.
      let b = before r.children c k s there in
      subst (λ us. OnlyFolds o (Some us) cell) (sym b.uses) (p.reduced k b.entry b.there (b.unfinished alive) o cell here);
  exclusive = p.exclusive;
}
  where
    fewer : (test : Sibling → Bool) → unfinished_unawaited r.waiting (with_finished r.children c) test ≡ true → unfinished_unawaited r.waiting r.children test ≡ true
    fewer test h = fewer-any r.children c (λ s. not (is_awaited_at r.waiting s) && test s) h

-- it has ended its body
placed-over : (r : Region) → IsSoundRegion r → r.rest ≡ End → r.groups ≡ [] → IsSoundRegion (over r)
placed-over r p was none = placed-as r p r.rest r.waiting true p.fine p.inside p.tasks p.awaits (λ e. ap (λ b. todo b r.groups) was ∙ ap (todo End) none) (λ e. none)

-- a body that ends leaves no child unfinished, but the root's
all-finished : (r : Region) → IsSoundRegion r → r.rest ≡ End → r.groups ≡ [] → r.waiting ≡ None → (uses : List Use) → r.own ≡ Some uses
    → (k : ℕ) (s : Sibling) → slice_get r.children k ≡ Some s → s.finished ≡ true
all-finished r p was none calm uses own k s there = true_from_ne_false s.finished (λ e. true≢false (kid-none r.children (λ x. true) k s left there e))
  where
    left : list_any (λ x. is_unfinished x && true) r.children ≡ false
    left =
        let at = subst (λ gs. AwaitsAll (unfinished_unawaited r.waiting r.children) End gs) none (subst (λ b. AwaitsAll (unfinished_unawaited r.waiting r.children) b r.groups) was (p.awaits uses own)) in
        ap (λ w. unfinished_unawaited w r.children (λ x. true)) (sym calm) ∙ awaits-end (unfinished_unawaited r.waiting r.children) at

-- ---- all regions

told-entry : (rs : List Region) (p c q k : ℕ) (x : Sibling) → slice_get (at (updated rs p (without c)) q).children k ≡ Some x → Before (at rs q).children k x
told-entry (r ∷ rs) zero c zero k x h = before r.children c k x h
told-entry (r ∷ rs) (suc p) c (suc q) k x h = told-entry rs p c q k x h
told-entry rs p c q k x h = itself (at rs q).children k x h

told-other : (rs : List Region) (p c q k : ℕ) (x : Sibling) → (q ≡ p → k ≢ c) → slice_get (at rs q).children k ≡ Some x → slice_get (at (updated rs p (without c)) q).children k ≡ Some x
told-other (r ∷ rs) zero c zero k x other h = untold r.children c k x (other refl) h
told-other (r ∷ rs) (suc p) c (suc q) k x other h = told-other rs p c q k x (λ e. other (ap suc e)) h
told-other rs p c q k x other h = h

told-ready : (rs : List Region) (p c q k : ℕ) → IsReady (at rs q).children k → IsReady (at (updated rs p (without c)) q).children k
told-ready (r ∷ rs) zero c zero k h = IsReady-finished r.children c k h
told-ready (r ∷ rs) (suc p) c (suc q) k h = told-ready rs p c q k h
told-ready rs p c q k h = h

module _ (ws : List Region) (s : IsSoundRegions ws) (i : ℕ) (h : i < length ws) (was : (at ws i).rest ≡ End) (none : (at ws i).groups ≡ []) (calm : (at ws i).waiting ≡ None) where
  abbrev p : ℕ
  p = parent_of ws i

  abbrev c : ℕ
  c = (at ws i).child

  abbrev now : List Region
  now = region_ended_at i ws

  abbrev noted : List Region
  noted = told_parent i ws

  pub long-closed : length now ≡ length ws
  long-closed = length-updated noted i over ∙ told-by i ws (λ l. length l ≡ length ws) (λ z. refl) (λ pos. length-updated ws p (without c))

  -- but for the tables and the end each field is as before
  same-told : {A : Type 0} (g : Region → A) → ((r : Region) → g (without c r) ≡ g r) → (j : ℕ) → g (at noted j) ≡ g (at ws j)
  same-told g w j = told-by i ws (λ l. g (at l j) ≡ g (at ws j)) (λ z. refl) (λ pos. field-kept g (without c) w ws p j)

  same : {A : Type 0} (g : Region → A) → ((r : Region) → g (over r) ≡ g r) → ((r : Region) → g (without c r) ≡ g r) → (j : ℕ) → g (at now j) ≡ g (at ws j)
  same g o w j = field-kept g over o noted i j ∙ same-told g w j

  tables : (q : ℕ) → (at now q).children ≡ (at noted q).children
  tables = field-kept (λ r. r.children) over (λ r. refl) noted i

  parent-same : (j : ℕ) → parent_of now j ≡ parent_of ws j
  parent-same = same (λ r. r.parent) (λ r. refl) (λ r. refl)

  child-same : (j : ℕ) → (at now j).child ≡ (at ws j).child
  child-same = same (λ r. r.child) (λ r. refl) (λ r. refl)

  pub todo-closed : (j : ℕ) → todo_at now j ≡ todo_at ws j
  todo-closed = same (λ r. todo r.rest r.groups) (λ r. refl) (λ r. refl)

  ended-other : (j : ℕ) → j ≢ i → ended_at now j ≡ ended_at ws j
  ended-other j other = ap (λ (r : Region). r.ended) (at-updated-other noted i j over other) ∙ same-told (λ r. r.ended) (λ r. refl) j

  ended-here : ended_at now i ≡ true
  ended-here = ap (λ (r : Region). r.ended) (at-updated noted i over (omega (arith, h, long-closed, length-updated noted i over)))

  -- an entry as it was before
  entry-was : (q k : ℕ) (x : Sibling) → slice_get (at now q).children k ≡ Some x → Before (at ws q).children k x
  entry-was q k x there =
      told-by i ws (λ l. slice_get (at l q).children k ≡ Some x → Before (at ws q).children k x) (λ z. itself (at ws q).children k x) (λ pos. told-entry ws p c q k x) (ap (λ t. slice_get t k) (sym (tables q)) ∙ there)

  pub begun-closed : (j : ℕ) → IsRootOrReady ws j → IsRootOrReady now j
  begun-closed j b pos =
      let r = b pos in (
        omega (arith, r.0, long-closed),
        subst (λ n. IsReady (at now n).children (at now j).child) (sym (parent-same j)) (subst (IsReady (at now (parent_of ws j)).children) (sym (child-same j)) (ready (parent_of ws j) (at ws j).child r.1)),
      )
    where
      ready : (q k : ℕ) → IsReady (at ws q).children k → IsReady (at now q).children k
      ready q k r = subst (λ t. IsReady t k) (sym (tables q)) (told-by i ws (λ l. IsReady (at l q).children k) (λ z. r) (λ pos. told-ready ws p c q k r))

  kin-now : (j : ℕ) → 0 < j → j < length now → IsKin now j
  kin-now j pos below = ⊎_elim own kept (cases_eq j i)
    where
      l : j < length ws
      l = omega (arith, below, long-closed)

      k : IsKin ws j
      k = s.kin j pos l

      make : (x : Sibling) → slice_get (at noted (parent_of ws j)).children (at ws j).child ≡ Some x → x.uses ≡ k.entry.uses → x.finished ≡ ended_at now j → IsKin now j
      make x there uses finished = record {
        entry = x;
        there = ap (λ n. slice_get (at now n).children (at now j).child) (parent-same j) ∙ ap (slice_get (at now (parent_of ws j)).children) (child-same j)
            ∙ ap (λ t. slice_get t (at ws j).child) (tables (parent_of ws j)) ∙ there;
        uses = same (λ r. r.own) (λ r. refl) (λ r. refl) j ∙ k.uses ∙ ap Some (sym uses);
        finished = finished;
      }

      places : 0 < i → parent_of ws j ≡ p → j ≢ i → (at ws j).child ≢ c
      places posi e other same_child =
          ⊎_elim (λ lt. omega (arith, s.older i j pos lt h e, same_child))
          (λ le. omega (arith, s.older j i posi (omega (arith, le, other)) l (sym e), same_child)) (cases_lt j i)

      kept : (j ≡ i → ⊥) → IsKin now j
      kept other =
          make k.entry (told-by i ws (λ l. slice_get (at l (parent_of ws j)).children (at ws j).child ≡ Some k.entry) (λ z. k.there)
          (λ posi. told-other ws p c (parent_of ws j) (at ws j).child k.entry (λ e. places posi e other) k.there)) refl (k.finished ∙ sym (ended-other j other))

      -- its own entry tells that it has finished
      own : j ≡ i → IsKin now j
      own me =
          make (record k.entry { finished = true })
          (told-by i ws (λ l. slice_get (at l (parent_of ws j)).children (at ws j).child ≡ Some (record k.entry { finished = true })) (λ z. absurd (omega (arith, z, me, pos)))
          (λ posi. ap (λ n. slice_get (at (updated ws p (without c)) (parent_of ws n)).children (at ws n).child) me
          ∙ ap (λ (r : Region). slice_get r.children c) (at-updated ws p (without c) (omega (arith, s.down i posi, h)))
          ∙ told (at ws p).children c k.entry (ap (λ n. slice_get (at ws (parent_of ws n)).children (at ws n).child) (sym me) ∙ k.there)))
          refl (sym (ap (ended_at now) me ∙ ended-here))

  done-now : (j : ℕ) → 0 < j → ended_at now j ≡ true → (k : ℕ) (x : Sibling) → slice_get (at now j).children k ≡ Some x → x.finished ≡ true
  done-now j pos ended k x there = by (cases_eq j i)
    where
      b : Before (at ws j).children k x
      b = entry-was j k x there

      by : (j ≡ i) ⊎ (j ≡ i → ⊥) → x.finished ≡ true
      by (inl e) =
          let kin = s.kin j pos (omega (arith, e, h)) in
          b.finished (all-finished (at ws i) (s.placed i) was none calm kin.entry.uses (ap (λ n. (at ws n).own) (sym e) ∙ kin.uses) k b.entry (ap (λ n. slice_get (at ws n).children k) (sym e) ∙ b.there))
      by (inr e) = b.finished (s.done j pos (sym (ended-other j e) ∙ ended) k b.entry b.there)

  pub parents-closed : parents now ≡ parents ws
  parents-closed = parents-updated noted i over (λ r. refl) ∙ told-by i ws (λ l. parents l ≡ parents ws) (λ z. refl) (λ pos. parents-updated ws p (without c) (λ r. refl))

  pub sound-closed : IsSoundRegions now
  sound-closed = record {
    root = same (λ r. r.own) (λ r. refl) (λ r. refl) 0 ∙ s.root;
    top = parent-same 0 ∙ s.top;
    down = λ j pos. omega (arith, s.down j pos, parent-same j);
    kin = kin-now;
    entries = λ q k x there.
        let b = entry-was q k x there in
        let e = s.entries q k b.entry b.there in
        record { task = e.task; below = e.below; known = omega (arith, e.known, long-closed); of = parent-same e.task ∙ e.of; is = child-same e.task ∙ e.is };
    older = λ a b pos lt below even.
        let o = s.older a b pos lt (omega (arith, below, long-closed)) (sym (parent-same b) ∙ even ∙ parent-same a) in
        omega (arith, o, child-same a, child-same b);
    begun = λ j pos below. subst (IsRootOrReady now) (sym (parent-same j)) (begun-closed (parent_of ws j) (s.begun j pos (omega (arith, below, long-closed))));
    entered = λ j o os is. begun-closed j (s.entered j o os (sym (same (λ r. r.groups) (λ r. refl) (λ r. refl) j) ∙ is));
    placed = at-each IsSoundRegion noted i over placed-told (placed-over (at noted i) (placed-told i) (same-told (λ r. r.rest) (λ r. refl) i ∙ was) (same-told (λ r. r.groups) (λ r. refl) i ∙ none));
    done = done-now;
  }
    where
      placed-told : (j : ℕ) → IsSoundRegion (at noted j)
      placed-told = told-by i ws (λ l. (j : ℕ) → IsSoundRegion (at l j)) (λ z. s.placed) (λ pos. at-each IsSoundRegion ws p (without c) s.placed (placed-without c (at ws p) (s.placed p)))
