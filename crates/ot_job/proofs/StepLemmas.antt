-- A control statement is executed: what it leaves of the region and what holds of it.
use Rattle.std.proofs.Common.{◌++◌, get_or, set, sym, length, length-append, true, false, ◌≡◌, ◌<◌, ℕ, suc, Bool, List, [], ◌∷◌, refl, ap, ◌∙◌, arith, ◌+◌, ◌⊎◌, inl, inr, Option, Some, None, option_map, nat_lt, if◌then◌else◌, ◌&&◌, subst, true≢false, not}
use Rattle.ot_job.proofs.Common.{length-updated, updated-updated, If, Wait, Group, Body, End, Next, append, updated, Use, Region, with_child, new_region, children_at, region_stepped, stepped_from, next_task, rest_at, with_created, control_executed, tasks_next, over, without, Waiting, Open, is_at_end, none-some, same_Some, told_parent, region_ended_at, moved_on, at, parent_of, Sibling, Cell, Operation, E, allows, EachTouch, EachTask, todo, IsFineAt, AwaitsAll, unfinished_unawaited, with_rest, inside, LetsAll, IsRootOrReady, IsSoundRegion, IsSoundRegions, awaits}
use Rattle.ot_model.specs.Tree.{Task as Fork}
use Rattle.ot_job_task.specs.Regions.{child_of, with_noted}
use Rattle.ot_job.proofs.ViewLemmas.{set-changed}
use Rattle.ot_job.proofs.ClaimableLemmas.{at-here}
use Rattle.ot_job.proofs.EachLemmas.{field-kept, field-more, moved-by}
use Rattle.ot_job.proofs.PlaceLemmas.{at-branch, taken-of, at-wait, at-enter, touch-append, task-append, placed-enter}
use Rattle.ot_job.proofs.AwaitsLemmas.{monotone, executed-wait, awaits-branch, awaits-wait, awaits-enter}
use Rattle.ot_job.proofs.KeptLemmas.{todo-append, todo-next}
use Rattle.ot_job.proofs.RightsLemmas.{fine-innermost}
use Rattle.ot_job.proofs.ChangedLemmas.{sound-changed, placed-as}

-- ---- what the execution of a control statement leaves of a region, and when it creates a task

-- nothing of it changes but its place and what it waits for
pub stepped-field : {A : Type 0} (g : Region → A) → ((r : Region) (rest : Body) (groups : List Open) (waiting : Waiting) → g (record r { rest = rest; groups = groups; waiting = waiting }) ≡ g r)
    → (taken : Bool) (number : ℕ) (r : Region) → g (region_stepped taken number r) ≡ g r
stepped-field g same taken number r = by r.rest
  where
    by : (b : Body) → g (stepped_from taken number b r) ≡ g r
    by (Next (If e a b) rest) = same r (append (if taken then a else b) rest) r.groups r.waiting
    by (Next (Fork d b) rest) = same r rest r.groups r.waiting
    by (Next (Wait w) rest) = same r rest r.groups (Some w)
    by (Next (Group op cs b) rest) = same r b (record { group = number; op = op; cells = cs; behind = rest } ∷ r.groups) r.waiting
    by b = refl

pub stepped-children : (taken : Bool) (number : ℕ) (r : Region) → (region_stepped taken number r).children ≡ r.children
stepped-children = stepped-field (λ r. r.children) (λ r rest groups waiting. refl)

pub stepped-running : (taken : Bool) (number : ℕ) (r : Region) → (region_stepped taken number r).running ≡ r.running
stepped-running = stepped-field (λ r. r.running) (λ r rest groups waiting. refl)

-- ---- the task that comes next

pub children-here : (rs : List Region) (i : ℕ) → children_at rs i ≡ length (at rs i).children
children-here (r ∷ rs) (suc i) = children-here rs i
children-here rs i = refl

pub rest-here : (rs : List Region) (i : ℕ) → rest_at rs i ≡ (at rs i).rest
rest-here (r ∷ rs) (suc i) = rest-here rs i
rest-here rs i = refl

none-next : (b : Body) → tasks_next b ≡ 0 → next_task b ≡ None
none-next (Next (Fork d b) rest) h = absurd (omega (arith, h))
none-next b h = refl

some-next : (b : Body) → (tasks_next b ≡ 0 → ⊥) → (child : List Use × Body) × (next_task b ≡ Some child)
some-next (Next (Fork d b) rest) h = ((d, b), refl)
some-next b h = absurd (h refl)

-- where no task comes next, none is created
pub executed-none : (taken : Bool) (g i : ℕ) (rs : List Region) → tasks_next (at rs i).rest ≡ 0 → control_executed taken g i rs ≡ updated rs i (region_stepped taken g)
executed-none taken g i rs none =
    ap (λ (o : Option (List Use × Body)). with_created i o (updated rs i (region_stepped taken g))) (ap next_task (rest-here rs i) ∙ none-next (at rs i).rest none)

-- where one does, it is
pub executed-some : (taken : Bool) (g i : ℕ) (rs : List Region) → (tasks_next (at rs i).rest ≡ 0 → ⊥)
    → (child : List Use × Body) × (control_executed taken g i rs ≡ with_created i (Some child) (updated rs i (region_stepped taken g)))
executed-some taken g i rs some =
    let child = some-next (at rs i).rest some in
    (child.0, ap (λ (o : Option (List Use × Body)). with_created i o (updated rs i (region_stepped taken g))) (ap next_task (rest-here rs i) ∙ child.1))

-- ---- one region and its child are put into the list

module _ (taken : Bool) (g i : ℕ) (rs : List Region) (r new : Region) (within : i < length rs) (is : r ≡ get_or rs i r) (made : new ≡ with_noted (next_task r.rest) (region_stepped taken g r)) where
  next-is : next_task (rest_at rs i) ≡ next_task r.rest
  next-is = ap next_task (rest-here rs i ∙ ap (λ (x : Region). x.rest) (at-here rs i r within is))

  -- none is created
  pub executed-alone : None ≡ option_map (child_of i r) (next_task r.rest) → set rs i new ≡ control_executed taken g i rs
  executed-alone none = by (next_task r.rest) refl
    where
      by : (o : Option (List Use × Body)) → next_task r.rest ≡ o → set rs i new ≡ control_executed taken g i rs
      by None e =
          set-changed rs i r new (region_stepped taken g) is (made ∙ ap (λ (o : Option (List Use × Body)). with_noted o (region_stepped taken g r)) e)
          ∙ sym (ap (λ (o : Option (List Use × Body)). with_created i o (updated rs i (region_stepped taken g))) (next-is ∙ e))
      by (Some d) e = absurd (none-some (child_of i r d) (none ∙ ap (option_map (child_of i r)) e))

  -- one is, and stands behind the others
  pub executed-beside : (child : Region) → Some child ≡ option_map (child_of i r) (next_task r.rest) → set rs i new ++ child ∷ [] ≡ control_executed taken g i rs
  executed-beside child one = by (next_task r.rest) refl
    where
      by : (o : Option (List Use × Body)) → next_task r.rest ≡ o → set rs i new ++ child ∷ [] ≡ control_executed taken g i rs
      by None e = absurd (none-some child (sym (one ∙ ap (option_map (child_of i r)) e)))
      by (Some d) e =
          let listed : set rs i new ≡ updated (updated rs i (region_stepped taken g)) i (with_child d.0) =
          set-changed rs i r new (λ s. with_child d.0 (region_stepped taken g s)) is (made ∙ ap (λ (o : Option (List Use × Body)). with_noted o (region_stepped taken g r)) e)
          ∙ sym (updated-updated rs i (region_stepped taken g) (with_child d.0)) in
          let many : length r.children ≡ children_at (updated rs i (region_stepped taken g)) i =
          sym (ap (λ (x : Region). length x.children) (at-here rs i r within is)) ∙ sym (children-here (updated rs i (region_stepped taken g)) i
          ∙ field-kept (λ x. length x.children) (region_stepped taken g) (λ x. ap length (stepped-children taken g x)) rs i i) in
          ap (λ l. l ++ child ∷ []) listed
          ∙ ap (λ (c : Region). updated (updated rs i (region_stepped taken g)) i (with_child d.0) ++ c ∷ [])
          (same_Some child (child_of i r d) (one ∙ ap (option_map (child_of i r)) e) ∙ ap (λ n. new_region i n d.0 d.1) many)
          ∙ sym (ap (λ (o : Option (List Use × Body)). with_created i o (updated rs i (region_stepped taken g))) (next-is ∙ e))

-- ---- a task moves on behind its piece

-- the parent's table tells of a child, or there is no parent
abbrev pub tell : Bool → ℕ → ℕ → List Region → List Region
tell some p c rs = if some then updated rs p (without c) else rs

pub tell-field : {A : Type 0} (g : Region → A) → ((c : ℕ) (r : Region) → g (without c r) ≡ g r) → (some : Bool) (p c : ℕ) (rs : List Region) (j : ℕ) → g (at (tell some p c rs) j) ≡ g (at rs j)
tell-field g keeps false p c rs j = refl
tell-field g keeps true p c rs j = field-kept g (without c) (keeps c) rs p j

pub tell-long : (some : Bool) (p c : ℕ) (rs : List Region) → length (tell some p c rs) ≡ length rs
tell-long false p c rs = refl
tell-long true p c rs = length-updated rs p (without c)

-- it stands at its body's end, or it doesn't
pub end-cases : (b : Body) (gs : List Open) → ((b ≡ End) × (gs ≡ []) × (is_at_end b gs ≡ true)) ⊎ (is_at_end b gs ≡ false)
end-cases End [] = inl (refl, refl, refl)
end-cases b gs = inr refl

-- what is out is out still
pub moved-running : (taken : Bool) (g i : ℕ) (rs : List Region) (k : ℕ) → (at (moved_on taken g i rs) k).running ≡ (at rs k).running
moved-running taken g i rs k = moved-by taken g i rs (λ l. (at l k).running ≡ (at rs k).running)
    (λ was. field-kept (λ r. r.running) over (λ r. refl) (told_parent i rs) i k ∙ tell-field (λ r. r.running) (λ c r. refl) (nat_lt 0 i) (parent_of rs i) (at rs i).child rs k)
    (field-kept (λ r. r.running) (region_stepped taken g) (stepped-running taken g) rs i k)
    (λ l child h. field-more (λ r. r.running) (updated l i (with_child child.0)) (new_region i (children_at l i) child.0 child.1) refl k ∙ field-kept (λ r. r.running) (with_child child.0) (λ r. refl) l i k ∙ h)

-- how many tasks there are
pub moved-long : (taken : Bool) (g i : ℕ) (rs : List Region) → length (moved_on taken g i rs) ≡ length rs + tasks_next (at rs i).rest
moved-long taken g i rs = elim (end-cases (at rs i).rest (at rs i).groups) [
  | inl ends ↦ (let told = tell-long (nat_lt 0 i) (parent_of rs i) (at rs i).child rs in
      let long = ap (λ b. length (if b then region_ended_at i rs else control_executed taken g i rs)) ends.2 ∙ length-updated (told_parent i rs) i over in
      omega (arith, long, told, ap tasks_next ends.0))
  | inr goes ↦ ap (λ b. length (if b then region_ended_at i rs else control_executed taken g i rs)) goes
      ∙ ap (λ b. length (with_created i (next_task b) (updated rs i (region_stepped taken g)))) (rest-here rs i) ∙ created (at rs i).rest
]
  where
    created : (b : Body) → length (with_created i (next_task b) (updated rs i (region_stepped taken g))) ≡ length rs + tasks_next b
    created (Next (Fork d b) rest) =
        let xs = updated rs i (region_stepped taken g) in
        let more = length-append (updated xs i (with_child d)) (new_region i (children_at xs i) d b ∷ []) in
        omega (arith, more, length-updated rs i (region_stepped taken g), length-updated xs i (with_child d))
    created b = omega (arith, length-updated rs i (region_stepped taken g))

-- ---- an `if` and a wait are executed: what holds of the region stays

abbrev pub waits : Option (List Use) → Body → Region → Region
waits w rest r = record r { rest = rest; waiting = Some w }

module _ (r : Region) (p : IsSoundRegion r) (alive : r.ended ≡ false) where
  ends : (next : Body) → r.ended ≡ true → todo next r.groups ≡ End
  ends next e = absurd (true≢false (sym e ∙ alive))

  pub placed-branch : (taken : Bool) (e : E) (a b rest : Body) → r.rest ≡ Next (If e a b) rest → IsSoundRegion (with_rest (append (if taken then a else b) rest) r)
  placed-branch taken e a b rest was =
      let chosen : Body = if taken then a else b in
      let P : Use → Type 0 = λ u. allows r.own u ≡ true in
      let t = subst (EachTouch P) (ap (λ x. todo x r.groups) was ∙ todo-next (If e a b) rest r.groups) p.inside in
      let each = subst (EachTask LetsAll) (ap (λ x. todo x r.groups) was ∙ todo-next (If e a b) rest r.groups) p.tasks in
      placed-as r p (append chosen rest) r.waiting r.ended
      (at-branch r.own (unfinished_unawaited r.waiting r.children) (monotone r.waiting r.children) taken e a b rest r.groups (subst (λ x. IsFineAt r.own (unfinished_unawaited r.waiting r.children) x r.groups) was p.fine))
      (subst (EachTouch P) (sym (todo-append chosen rest r.groups)) (touch-append P chosen (todo rest r.groups) (taken-of (EachTouch P) taken a b t.0.1 t.0.2) t.1))
      (subst (EachTask LetsAll) (sym (todo-append chosen rest r.groups)) (task-append LetsAll chosen (todo rest r.groups) (taken-of (EachTask LetsAll) taken a b each.0.0 each.0.1) each.1))
      (λ uses own. awaits-branch (unfinished_unawaited r.waiting r.children) (monotone r.waiting r.children) taken e a b rest r.groups
      (subst (λ x. AwaitsAll (unfinished_unawaited r.waiting r.children) x r.groups) was (p.awaits uses own))) (ends (append chosen rest)) p.shut

  pub placed-wait : (w : Option (List Use)) (rest : Body) → r.rest ≡ Next (Wait w) rest → r.waiting ≡ None → IsSoundRegion (waits w rest r)
  placed-wait w rest was calm =
      placed-as r p rest (Some w) r.ended
      (at-wait r.own (unfinished_unawaited r.waiting r.children) (unfinished_unawaited (Some w) r.children) (monotone r.waiting r.children) w rest r.groups fewer
      (subst (λ x. IsFineAt r.own (unfinished_unawaited r.waiting r.children) x r.groups) was p.fine))
      (subst (EachTouch (λ u. allows r.own u ≡ true)) (ap (λ x. todo x r.groups) was ∙ todo-next (Wait w) rest r.groups) p.inside).1
      (subst (EachTask LetsAll) (ap (λ x. todo x r.groups) was ∙ todo-next (Wait w) rest r.groups) p.tasks).1
      (λ uses own. awaits-wait (unfinished_unawaited r.waiting r.children) (unfinished_unawaited (Some w) r.children) (monotone r.waiting r.children) w rest r.groups fewer
      (subst (λ x. AwaitsAll (unfinished_unawaited r.waiting r.children) x r.groups) was (p.awaits uses own))) (ends rest) p.shut
    where
      fewer : (test : Sibling → Bool) → unfinished_unawaited (Some w) r.children test ≡ true → unfinished_unawaited r.waiting r.children (λ s. test s && not (awaits w s.uses)) ≡ true
      fewer test h = subst (λ x. unfinished_unawaited x r.children (λ s. test s && not (awaits w s.uses)) ≡ true) (sym calm) (executed-wait w r.children test h)

module _ (ws : List Region) (s : IsSoundRegions ws) (i : ℕ) (h : i < length ws) (alive : (at ws i).ended ≡ false) where
  pub sound-branch : (taken : Bool) (e : E) (a b rest : Body) → (at ws i).rest ≡ Next (If e a b) rest → IsSoundRegions (updated ws i (with_rest (append (if taken then a else b) rest)))
  sound-branch taken e a b rest was =
      sound-changed ws i (with_rest (append (if taken then a else b) rest)) h (record { parent = λ r. refl; child = λ r. refl; own = λ r. refl; children = λ r. refl; ended = λ r. refl }) s
      (placed-branch (at ws i) (s.placed i) alive taken e a b rest was) (s.entered i)

  pub sound-wait : (at ws i).waiting ≡ None → (w : Option (List Use)) (rest : Body) → (at ws i).rest ≡ Next (Wait w) rest → IsSoundRegions (updated ws i (waits w rest))
  sound-wait calm w rest was =
      sound-changed ws i (waits w rest) h (record { parent = λ r. refl; child = λ r. refl; own = λ r. refl; children = λ r. refl; ended = λ r. refl }) s (placed-wait (at ws i) (s.placed i) alive w rest was calm) (s.entered i)

module _ (ws : List Region) (s : IsSoundRegions ws) (i : ℕ) (h : i < length ws) (calm : (at ws i).waiting ≡ None) (started : IsRootOrReady ws i) where
  pub sound-enter : (g : ℕ) (op : Operation) (cs : List Cell) (b rest : Body) → (at ws i).rest ≡ Next (Group op cs b) rest → IsSoundRegions (updated ws i (λ r. inside g op cs b (with_rest rest r)))
  sound-enter g op cs b rest was =
      let r = at ws i in
      let fine = subst (λ x. IsFineAt r.own (unfinished_unawaited r.waiting r.children) x r.groups) was (s.placed i).fine in
      sound-changed ws i (λ r. inside g op cs b (with_rest rest r)) h (record { parent = λ r. refl; child = λ r. refl; own = λ r. refl; children = λ r. refl; ended = λ r. refl }) s
      (placed-enter r (s.placed i) g op cs b rest was calm (fine-innermost r.own (unfinished_unawaited r.waiting r.children) (Next (Group op cs b) rest) r.groups fine).0
      (at-enter r.own (unfinished_unawaited r.waiting r.children) op cs b rest g r.groups (λ f k w u. monotone r.waiting r.children f k w u) fine)
      (λ uses own. awaits-enter (unfinished_unawaited r.waiting r.children) op cs b rest g r.groups (λ f k w u. monotone r.waiting r.children f k w u)
      (subst (λ x. AwaitsAll (unfinished_unawaited r.waiting r.children) x r.groups) was ((s.placed i).awaits uses own)))) (λ o os is. started)
