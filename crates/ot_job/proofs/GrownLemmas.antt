-- A task is created: what holds of the regions stays.
use Rattle.std.proofs.Common.{◌≡◌, ℕ, ◌<◌, true, false, ◌||◌, List, [], ◌∷◌, ◌++◌, map, length, refl, sym, ap, subst, ◌∙◌, inl, inr, arith, true≢false, Some, slice_get, ◌==◌}
use Rattle.ot_job.proofs.Common.{list_any, slice_get_within, Task, Body, Next, updated, AreInOrder, Use, length-updated, Sibling, sibling_created, is_in, EachTouch, EachTask, IsFine, IsClean, allows, or_false_right, true_or, Open, todo, openings_of, children_of, IsFineAt, AwaitsAll, unfinished_unawaited, Region, with_rest, with_child, new_region, at, parent_of, ended_at, LetsAll, IsRootOrReady, IsSoundRegion, IsSoundRegions, slice_get-push_place}
use Rattle.ot_check.proofs.Cited.{eq_itself}
use Rattle.ot_check.specs.Discipline.{marks, may_break}
use Rattle.ot_check.specs.declared.fault.Offence.TheVariants.{EndsWithChildren}
use Rattle.ot_job.specs.Sound.{HasTask}
use Rattle.ot_job.proofs.PlaceLemmas.{at-fewer, at-task}
use Rattle.ot_job.proofs.AwaitsLemmas.{awaits-fewer, awaits-task}
use Rattle.ot_job.proofs.KeptLemmas.{at-updated, todo-next}
use Rattle.ot_job.proofs.ChangedLemmas.{sound-changed, begun-changed, placed-as, placed-bare}
use Rattle.ot_job.proofs.RightsLemmas.{fine-innermost}
use Rattle.ot_job.proofs.CreatedLemmas.{kids-more, placed-parent, child, more, long, at-fresh, at-each-one, same-field, kin-more, begun-more}
use Rattle.ot_job.proofs.FoldLemmas.{folds-alone}
use Rattle.ot_job.proofs.EachLemmas.{at-each, more-each}

first_group : (gs : List Open) (o : Open) (more : List Open) (uses : List Use) → gs ≡ o ∷ more → is_in o.group (sibling_created uses (map (λ p. p.group) gs)) ≡ true
first_group gs o os uses is = subst (λ ps. is_in o.group (sibling_created uses (map (λ p. p.group) ps)) ≡ true) (sym is) (true_or (o.group == o.group) _ (eq_itself o.group))

module _ (r : Region) (p : IsSoundRegion r) (alive : r.ended ≡ false) (uses : List Use) (body rest : Body) (was : r.rest ≡ Next (Task uses body) rest) (ordered : AreInOrder uses) where
  abbrev new : Sibling
  new = sibling_created uses (map (λ o. o.group) r.groups)

  each : EachTask LetsAll (Next (Task uses body) (todo rest r.groups))
  each = subst (EachTask LetsAll) (ap (λ x. todo x r.groups) was ∙ todo-next (Task uses body) rest r.groups) p.tasks

  fine-was : IsFineAt r.own (unfinished_unawaited r.waiting r.children) (Next (Task uses body) rest) r.groups
  fine-was = subst (λ x. IsFineAt r.own (unfinished_unawaited r.waiting r.children) x r.groups) was p.fine

  innermost : IsFine r.own (openings_of r.groups) (children_of (unfinished_unawaited r.waiting r.children)) (Next (Task uses body) rest)
  innermost = fine-innermost r.own (unfinished_unawaited r.waiting r.children) (Next (Task uses body) rest) r.groups fine-was

  fine-next : IsFineAt r.own (λ test. unfinished_unawaited r.waiting r.children test || test new) rest r.groups
  fine-next = at-task r.own (unfinished_unawaited r.waiting r.children) uses body rest r.groups new refl (λ o more is. first_group r.groups o more uses is) fine-was

  awaits-next : (own : List Use) → r.own ≡ Some own → AwaitsAll (λ test. unfinished_unawaited r.waiting r.children test || test new) rest r.groups
  awaits-next own is =
      awaits-task (unfinished_unawaited r.waiting r.children) uses body rest r.groups new refl (λ o more is. first_group r.groups o more uses is)
      (subst (λ x. AwaitsAll (unfinished_unawaited r.waiting r.children) x r.groups) was (p.awaits own is))

  -- the statement is taken off
  pub placed-off : IsSoundRegion (with_rest rest r)
  placed-off =
      placed-as r p rest r.waiting r.ended
      (at-fewer r.own (unfinished_unawaited r.waiting r.children) (λ test. unfinished_unawaited r.waiting r.children test || test new) rest r.groups (λ test h. true_or _ _ h) fine-next)
      (subst (EachTouch (λ u. allows r.own u ≡ true)) (ap (λ x. todo x r.groups) was ∙ todo-next (Task uses body) rest r.groups) p.inside).1 each.1
      (λ own is. awaits-fewer (unfinished_unawaited r.waiting r.children) (λ test. unfinished_unawaited r.waiting r.children test || test new) rest r.groups (λ test h. true_or _ _ h) (awaits-next own is))
      (λ e. absurd (true≢false (sym e ∙ alive))) p.shut

  -- the child is noted
  pub placed-noted : IsSoundRegion (with_child uses (with_rest rest r))
  placed-noted =
      placed-parent r p uses body rest was (λ own is. subst (λ o. IsClean o (openings_of r.groups) (children_of (unfinished_unawaited r.waiting r.children)) (Task uses body)) (sym is) innermost.0) (folds-alone uses ordered)
      (at-fewer r.own (unfinished_unawaited r.waiting (r.children ++ new ∷ [])) (λ test. unfinished_unawaited r.waiting r.children test || test new) rest r.groups (kids-more r.waiting r.children new) fine-next)
      (λ own is. awaits-fewer (unfinished_unawaited r.waiting (r.children ++ new ∷ [])) (λ test. unfinished_unawaited r.waiting r.children test || test new) rest r.groups (kids-more r.waiting r.children new) (awaits-next own is))

  -- and begins
  pub placed-new : (parent child : ℕ) → IsSoundRegion (new_region parent child uses body)
  placed-new parent child = placed-bare parent child (Some uses) body false innermost.1 each.0.0 each.0.1
      (λ own is. or_false_right (list_any (λ m. may_break r.own (openings_of r.groups) (children_of (unfinished_unawaited r.waiting r.children)) m EndsWithChildren) (marks (Task uses body))) _ (innermost.0 EndsWithChildren))
      (λ e. absurd (true≢false (sym e))) (folds-alone uses ordered)

-- ---- all regions

module _ (rs : List Region) (s : IsSoundRegions rs) (i : ℕ) (h : i < length rs) (alive : ended_at rs i ≡ false) (started : IsRootOrReady rs i)
    (uses : List Use) (body : Body) (noted : IsSoundRegion (with_child uses (at rs i))) (fresh : IsSoundRegion (new_region i (length (at rs i).children) uses body)) where
  abbrev now : List Region
  now = more rs i h uses body

  parent-old : (j : ℕ) → j < length rs → parent_of now j ≡ parent_of rs j
  parent-old = same-field rs i h uses body (λ r. r.parent) (λ r. refl)

  child-old : (j : ℕ) → j < length rs → (at now j).child ≡ (at rs j).child
  child-old = same-field rs i h uses body (λ r. r.child) (λ r. refl)

  some : 0 < length rs
  some = omega (arith, h)

  entries-now : (p k : ℕ) (x : Sibling) → slice_get (at now p).children k ≡ Some x → HasTask now p k
  entries-now = at-each-one rs i h uses body (λ p r. (k : ℕ) (x : Sibling) → slice_get r.children k ≡ Some x → HasTask now p k) (λ p below other. old p) mine (λ k x there. cc) (λ p past k x there. cc)
    where
      old : (p k : ℕ) (x : Sibling) → slice_get (at rs p).children k ≡ Some x → HasTask now p k
      old p k x is =
          let e = s.entries p k x is in
          record { task = e.task; below = e.below; known = omega (arith, e.known, long rs i h uses body); of = parent-old e.task e.known ∙ e.of; is = child-old e.task e.known ∙ e.is }

      mine : (k : ℕ) (x : Sibling) → slice_get (with_child uses (at rs i)).children k ≡ Some x → HasTask now i k
      mine k x there = elim (slice_get-push_place (at rs i).children (sibling_created uses (map (λ o. o.group) (at rs i).groups)) k x there) [
        | inl is ↦ old i k x is
        | inr is ↦ record {
          task = length rs;
          below = some;
          known = omega (arith, long rs i h uses body);
          of = ap (λ (r : Region). r.parent) (at-fresh rs i h uses body);
          is = ap (λ (r : Region). r.child) (at-fresh rs i h uses body) ∙ sym is.0;
        }
      ]

  older-now : (a b : ℕ) → 0 < b → b < a → a < length now → parent_of now b ≡ parent_of now a → (at now b).child < (at now a).child
  older-now = at-each-one rs i h uses body (λ a r. (b : ℕ) → 0 < b → b < a → a < length now → parent_of now b ≡ r.parent → (at now b).child < r.child)
      (λ a below other. old a below) (old i h) youngest (λ a past b pos lt below same. absurd (omega (arith, past, below, long rs i h uses body)))
    where
      old : (a : ℕ) → a < length rs → (b : ℕ) → 0 < b → b < a → a < length now → parent_of now b ≡ parent_of rs a → (at now b).child < (at rs a).child
      old a below b pos lt l same =
          let b-old : b < length rs = omega (arith, lt, below) in
          omega (arith, s.older a b pos lt below (sym (parent-old b b-old) ∙ same), child-old b b-old)

      youngest : (b : ℕ) → 0 < b → b < length rs → length rs < length now → parent_of now b ≡ i → (at now b).child < length (at rs i).children
      youngest b pos lt l same =
          let k = s.kin b pos lt in
          let place = slice_get_within (at rs i).children (at rs b).child k.entry (ap (λ n. slice_get (at rs n).children (at rs b).child) (sym same ∙ parent-old b lt) ∙ k.there) in
          omega (arith, place, child-old b lt)

  pub begun-now : (j : ℕ) → j < length rs → IsRootOrReady rs j → IsRootOrReady now j
  begun-now = begun-more rs i h uses body s

  pub sound-grown : IsSoundRegions now
  sound-grown = record {
    root = same-field rs i h uses body (λ r. r.own) (λ r. refl) 0 some ∙ s.root;
    top = parent-old 0 some ∙ s.top;
    down = at-each-one rs i h uses body (λ j r. 0 < j → r.parent < j) (λ j below other. s.down j) (s.down i) (λ pos. h) (λ j past pos. pos);
    kin = kin-more rs i h uses body s;
    entries = entries-now;
    older = older-now;
    begun = at-each-one rs i h uses body (λ j r. 0 < j → j < length now → IsRootOrReady now r.parent) (λ j below other. begun j below) (begun i h) (λ pos l. begun-now i h started)
        (λ j past pos l. absurd (omega (arith, past, l, long rs i h uses body)));
    entered = at-each-one rs i h uses body (λ j r. (o : Open) (os : List Open) → r.groups ≡ o ∷ os → IsRootOrReady now j) (λ j below other o os is. begun-now j below (s.entered j o os is))
        (λ o os is. begun-now i h (s.entered i o os is)) (λ o os is. cc) (λ j past o os is. cc);
    placed = more-each IsSoundRegion (updated rs i (with_child uses)) (new_region i (length (at rs i).children) uses body) (at-each IsSoundRegion rs i (with_child uses) s.placed noted) fresh;
    done = at-each-one rs i h uses body (λ j r. 0 < j → r.ended ≡ true → (k : ℕ) (x : Sibling) → slice_get r.children k ≡ Some x → x.finished ≡ true) (λ j below other. s.done j)
        (λ pos over. absurd (true≢false (sym over ∙ alive))) (λ pos over. absurd (true≢false (sym over))) (λ j past pos over k x there. cc);
  }
    where
      begun : (j : ℕ) → j < length rs → 0 < j → j < length now → IsRootOrReady now (parent_of rs j)
      begun j below pos l = begun-now (parent_of rs j) (omega (arith, s.down j pos, below)) (s.begun j pos below)

-- the task statement that comes next is executed
module _ (ws : List Region) (s : IsSoundRegions ws) (i : ℕ) (h : i < length ws) (alive : ended_at ws i ≡ false) (started : IsRootOrReady ws i)
    (uses : List Use) (body rest : Body) (was : (at ws i).rest ≡ Next (Task uses body) rest) (ordered : AreInOrder uses) where
  off : IsSoundRegions (updated ws i (with_rest rest))
  off = sound-changed ws i (with_rest rest) h (record { parent = λ r. refl; child = λ r. refl; own = λ r. refl; children = λ r. refl; ended = λ r. refl }) s
      (placed-off (at ws i) (s.placed i) alive uses body rest was ordered) (s.entered i)

  pub hr : i < length (updated ws i (with_rest rest))
  hr = omega (arith, h, length-updated ws i (with_rest rest))

  here : at (updated ws i (with_rest rest)) i ≡ with_rest rest (at ws i)
  here = at-updated ws i (with_rest rest) h

  begun-off : (j : ℕ) → IsRootOrReady ws j → IsRootOrReady (updated ws i (with_rest rest)) j
  begun-off j = begun-changed ws i (with_rest rest) h (record { parent = λ r. refl; child = λ r. refl; own = λ r. refl; children = λ r. refl; ended = λ r. refl }) j

  pub sound-task : IsSoundRegions (more (updated ws i (with_rest rest)) i hr uses body)
  sound-task = sound-grown (updated ws i (with_rest rest)) off i hr (ap (λ (r : Region). r.ended) here ∙ alive) (begun-off i started) uses body
      (subst (λ (r : Region). IsSoundRegion (with_child uses r)) (sym here) (placed-noted (at ws i) (s.placed i) alive uses body rest was ordered))
      (placed-new (at ws i) (s.placed i) alive uses body rest was ordered i (length (at (updated ws i (with_rest rest)) i).children))

  pub begun-task : (j : ℕ) → j < length ws → IsRootOrReady ws j → IsRootOrReady (more (updated ws i (with_rest rest)) i hr uses body) j
  begun-task j below b = begun-more (updated ws i (with_rest rest)) i hr uses body off j (omega (arith, below, length-updated ws i (with_rest rest))) (begun-off j b)
