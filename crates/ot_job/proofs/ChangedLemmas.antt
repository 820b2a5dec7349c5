-- One region moves on, and who is whose child stays.
use Rattle.std.proofs.Common.{◌≡◌, ℕ, ◌<◌, List, ◌∷◌, length, sym, ap, subst, ◌∙◌, ◌⊎◌, inl, inr, arith, Bool, true, [], slice_get, Some, None, true≢false, refl}
use Rattle.ot_job.proofs.Common.{cases_eq, updated, Body, End, Use, length-updated, IsReady, Open, todo, Region, Waiting, at, parent_of, IsRootOrReady, IsSoundRegion, IsSoundRegions, LetsAll, IsFineAt, AwaitsAll, unfinished_unawaited, EachTouch, EachTask, allows, Cell, Declared, IsFine, OnlyFolds, Operation, children_of, folds_to}
use Rattle.ot_check.specs.Discipline.{nothing_open}
use Rattle.ot_job.proofs.KeptLemmas.{at-updated, at-updated-other}
use Rattle.ot_job.proofs.EachLemmas.{at-each, field-kept}

-- what says who is whose child stays
pub record IsKept (f : Region → Region) : Type 0 where
  pub parent : (r : Region) → (f r).parent ≡ r.parent
  pub child : (r : Region) → (f r).child ≡ r.child
  pub own : (r : Region) → (f r).own ≡ r.own
  pub children : (r : Region) → (f r).children ≡ r.children
  pub ended : (r : Region) → (f r).ended ≡ r.ended

module _ (rs : List Region) (i : ℕ) (f : Region → Region) (h : i < length rs) (k : IsKept f) where
  field : {A : Type 0} (g : Region → A) → ((r : Region) → g (f r) ≡ g r) → (j : ℕ) → g (at (updated rs i f) j) ≡ g (at rs j)
  field g keeps = field-kept g f keeps rs i

  parents-same : (j : ℕ) → parent_of (updated rs i f) j ≡ parent_of rs j
  parents-same = field (λ r. r.parent) k.parent

  table : (j : ℕ) → (at (updated rs i f) (parent_of (updated rs i f) j)).children ≡ (at rs (parent_of rs j)).children
  table j = field (λ r. r.children) k.children (parent_of (updated rs i f) j) ∙ ap (λ p. (at rs p).children) (parents-same j)

  pub begun-changed : (j : ℕ) → IsRootOrReady rs j → IsRootOrReady (updated rs i f) j
  begun-changed j b pos =
      let r = b pos in (
        omega (arith, r.0, length-updated rs i f),
        subst (λ c. IsReady (at (updated rs i f) (parent_of (updated rs i f) j)).children c) (sym (field (λ r. r.child) k.child j)) (subst (λ t. IsReady t (at rs j).child) (sym (table j)) r.1),
      )

  pub sound-changed : IsSoundRegions rs → IsSoundRegion (f (at rs i)) → ((o : Open) (os : List Open) → (f (at rs i)).groups ≡ o ∷ os → IsRootOrReady rs i) → IsSoundRegions (updated rs i f)
  sound-changed s placed opens = record {
    root = field (λ r. r.own) k.own 0 ∙ s.root;
    top = parents-same 0 ∙ s.top;
    down = λ j pos. subst (λ n. n < j) (sym (parents-same j)) (s.down j pos);
    kin = λ j pos below.
        let w = s.kin j pos (omega (arith, below, length-updated rs i f)) in
        record {
          entry = w.entry;
          there = ap (λ t. slice_get t (at (updated rs i f) j).child) (table j) ∙ ap (slice_get (at rs (parent_of rs j)).children) (field (λ r. r.child) k.child j) ∙ w.there;
          uses = field (λ r. r.own) k.own j ∙ w.uses;
          finished = w.finished ∙ sym (field (λ r. r.ended) k.ended j);
        };
    entries = λ p l x there.
        let e = s.entries p l x (ap (λ t. slice_get t l) (sym (field (λ r. r.children) k.children p)) ∙ there) in
        record {
          task = e.task;
          below = e.below;
          known = omega (arith, e.known, length-updated rs i f);
          of = parents-same e.task ∙ e.of;
          is = field (λ r. r.child) k.child e.task ∙ e.is;
        };
    older = λ a b pos lt below same.
        let o = s.older a b pos lt (omega (arith, below, length-updated rs i f)) (sym (parents-same b) ∙ same ∙ parents-same a) in
        omega (arith, o, field (λ r. r.child) k.child a, field (λ r. r.child) k.child b);
    begun = λ j pos below. subst (IsRootOrReady (updated rs i f)) (sym (parents-same j)) (begun-changed (parent_of rs j) (s.begun j pos (omega (arith, below, length-updated rs i f))));
    entered = λ j o os is. begun-changed j (opened-at j o os is (cases_eq j i));
    placed = at-each IsSoundRegion rs i f s.placed placed;
    done = λ j pos over l x there.
        s.done j pos (sym (field (λ r. r.ended) k.ended j) ∙ over) l x (ap (λ t. slice_get t l) (sym (field (λ r. r.children) k.children j)) ∙ there);
  }
    where
      opened-at : (j : ℕ) (o : Open) (os : List Open) → (at (updated rs i f) j).groups ≡ o ∷ os → (j ≡ i) ⊎ (j ≡ i → ⊥) → IsRootOrReady rs j
      opened-at j o os is (inl e) =
          subst (IsRootOrReady rs) (sym e) (opens o os (ap (λ (r : Region). r.groups) (sym (at-updated rs i f h)) ∙ ap (λ n. (at (updated rs i f) n).groups) (sym e) ∙ is))
      opened-at j o os is (inr e) = s.entered j o os (ap (λ (r : Region). r.groups) (sym (at-updated-other rs i j f e)) ∙ is)

-- its body and its wait go on, or it ends: what its children and its groups ask stays
pub placed-as : (r : Region) → IsSoundRegion r → (rest : Body) (waiting : Waiting) (ended : Bool) → IsFineAt r.own (unfinished_unawaited waiting r.children) rest r.groups → EachTouch (λ u. allows r.own u ≡ true) (todo rest r.groups)
    → EachTask LetsAll (todo rest r.groups) → ((uses : List Use) → r.own ≡ Some uses → AwaitsAll (unfinished_unawaited waiting r.children) rest r.groups) → (ended ≡ true → todo rest r.groups ≡ End)
    → (ended ≡ true → r.groups ≡ []) → IsSoundRegion (record r { rest = rest; waiting = waiting; ended = ended })
placed-as r p rest waiting ended fine inside tasks awaits over shut = record {
  fine = fine;
  inside = inside;
  tasks = tasks;
  awaits = awaits;
  within = p.within;
  apart = p.apart;
  over = over;
  shut = shut;
  once = p.once;
  writes = p.writes;
  grouped = p.grouped;
  reduced = p.reduced;
  exclusive = p.exclusive;
}

-- a region with no child and no open group
pub placed-bare : (parent child : ℕ) (own : Declared) (rest : Body) (ended : Bool) → IsFine own nothing_open (children_of (unfinished_unawaited None [])) rest → EachTouch (λ u. allows own u ≡ true) rest → EachTask LetsAll rest
    → ((uses : List Use) → own ≡ Some uses → AwaitsAll (unfinished_unawaited None []) rest []) → (ended ≡ true → rest ≡ End) → ((o : Operation) (c : Cell) → folds_to own o c ≡ true → OnlyFolds o own c)
    → IsSoundRegion (record { parent = parent; child = child; own = own; rest = rest; groups = []; children = []; waiting = None; ended = ended; running = None })
placed-bare parent child own rest ended fine inside tasks awaits over exclusive = record {
  fine = fine;
  inside = inside;
  tasks = tasks;
  awaits = awaits;
  within = λ k s h. cc;
  apart = λ k l s t h. cc;
  over = over;
  shut = λ e. refl;
  once = tt;
  writes = λ o c h. absurd (true≢false (sym h));
  grouped = λ k s h. cc;
  reduced = λ k s h. cc;
  exclusive = exclusive;
}
