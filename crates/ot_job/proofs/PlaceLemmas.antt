-- How what is left stays fine, step by step, where a group is entered and passed too.
use Rattle.std.proofs.Common.{◌≡◌, ℕ, Bool, true, false, not, ◌&&◌, ◌||◌, List, [], ◌∷◌, Option, refl, sym, subst, ◌∙◌, true≢false, zero, suc, ap, inl, inr, ⊎_elim, None, Some, slice_get, if◌then◌else◌}
use Rattle.ot_job.proofs.Common.{E, Set, Fold, If, Task, Wait, Group, Body, End, Next, append, Cell, Operation, Use, Sibling, is_in, Declared, awaits, behind_one, IsFine, true_or, or_right, and_left, and_right, and_true, Open, openings_of, Kids, children_of, kids_behind, IsFineAt, false_from_ne_true, list_any, S, same_fold, Mode, Writes, is_unfinished, use_as, EachTouch, EachTask, allows, clashes, has_cell, opened_by_any, same_cell, ReductionMisuse, ConflictsWithChild, or_true, or_false_left, or_false_right, group_free, groups_inside, opened-none, same_is, clash_free, IsClean, todo, AwaitsAll, unfinished_unawaited, Region, with_rest, inside, LetsAll, NamedOnce, IsSoundRegion, grouped_in}
use Rattle.ot_check.specs.Discipline.{nothing_open, behind, through, AreFewer}
use Rattle.ot_check.proofs.Cited.{any-more, fine-fewer, fine-append, through-append, is_offence-Group, conflicts_writes}
use Rattle.ot_job.proofs.KeptLemmas.{todo-next}

-- ---- how what is left stays fine, step by step

-- each child of the one is among the other
abbrev pub FewerKids : Kids → Kids → Type 0
FewerKids fewer kids = (test : Sibling → Bool) → fewer test ≡ true → kids test ≡ true

abbrev pub Monotone : Kids → Type 0
Monotone kids = (f g : Sibling → Bool) → ((s : Sibling) → f s ≡ true → g s ≡ true) → kids f ≡ true → kids g ≡ true

-- fewer children are fewer behind the end of a group
pub behind-fewer : (fewer kids : Kids) (rest : Body) (g : ℕ) → FewerKids fewer kids → FewerKids (kids_behind fewer rest g) (kids_behind kids rest g)
behind-fewer fewer kids rest g le T k = le (λ s. through s.uses rest && (not (is_in g s) && T s)) k

-- a child that has finished, a body of which less is left: behind each end there are fewer children
pub at-fewer : (own : Declared) (fewer kids : Kids) (rest : Body) (os : List Open) → FewerKids fewer kids → IsFineAt own kids rest os → IsFineAt own fewer rest os
at-fewer own fewer kids rest [] le h = fine-fewer own nothing_open (children_of fewer) (children_of kids) (λ T. le (λ s. T s.uses)) rest h
at-fewer own fewer kids rest (o ∷ os) le h = (
  fine-fewer own (openings_of (o ∷ os)) (children_of fewer) (children_of kids) (λ T. le (λ s. T s.uses)) rest h.0,
  at-fewer own (kids_behind fewer rest o.group) (kids_behind kids rest o.group) o.behind os (behind-fewer fewer kids rest o.group le) h.1,
)

-- the innermost body moves on, and behind the end of its group there are fewer children
pub at-step : (own : Declared) (before now : Kids) (rest next : Body) (os : List Open)
    → (IsFine own (openings_of os) (children_of before) rest → IsFine own (openings_of os) (children_of now) next)
    → ((g : ℕ) (o : Open) (more : List Open) → os ≡ o ∷ more → FewerKids (kids_behind now next o.group) (kids_behind before rest o.group))
    → IsFineAt own before rest os → IsFineAt own now next os
at-step own before now rest next [] moves le h = moves h
at-step own before now rest next (o ∷ os) moves le h =
    (moves h.0, at-fewer own (kids_behind now next o.group) (kids_behind before rest o.group) o.behind os (le 0 o os refl) h.1)

-- ---- the steps

pub at-set : (own : Declared) (kids : Kids) (c : Cell) (e : E) (rest : Body) (os : List Open) → IsFineAt own kids (Next (Set c e) rest) os → IsFineAt own kids rest os
at-set own kids c e rest os h = at-step own kids kids (Next (Set c e) rest) rest os (λ f. f.2) (λ g o more is T k. k) h

pub at-fold : (own : Declared) (kids : Kids) (op : Operation) (c : Cell) (e : E) (rest : Body) (os : List Open) → IsFineAt own kids (Next (Fold op c e) rest) os → IsFineAt own kids rest os
at-fold own kids op c e rest os h = at-step own kids kids (Next (Fold op c e) rest) rest os (λ f. f.2) (λ g o more is T k. k) h

and_more : (p q r : Bool) → (p ≡ true → q ≡ true) → (p && r) ≡ true → (q && r) ≡ true
and_more p q r le h = and_true q r (le (and_left p r h)) (and_right p r h)

-- what is true of both bodies of an `if` is true of the one that is taken, and what is true of that one is true of one of them
pub taken-of : (P : Body → Type 0) (taken : Bool) (a b : Body) → P a → P b → P (if taken then a else b)
taken-of P true a b p q = p
taken-of P false a b p q = q

pub taken-or : (test : Body → Bool) (taken : Bool) (a b : Body) → test (if taken then a else b) ≡ true → (test a || test b) ≡ true
taken-or test true a b h = true_or (test a) (test b) h
taken-or test false a b h = or_right (test a) (test b) h

-- behind the end of a group: what a child gets through in the body that an `if` takes it gets through in the `if`
pub behind-branch : (kids : Kids) → Monotone kids → (taken : Bool) (e : E) (a b rest : Body) (g : ℕ) → FewerKids (kids_behind kids (append (if taken then a else b) rest) g) (kids_behind kids (Next (If e a b) rest) g)
behind-branch kids mono taken e a b rest g T k =
    let chosen : Body = if taken then a else b in
    mono _ (λ s. through s.uses (Next (If e a b) rest) && (not (is_in g s) && T s))
    (λ s. and_more (through s.uses (append chosen rest)) (through s.uses (Next (If e a b) rest)) (not (is_in g s) && T s) (λ t.
    let both = sym (through-append s.uses chosen rest) ∙ t in
    and_true (through s.uses a || through s.uses b) (through s.uses rest)
    (taken-or (through s.uses) taken a b (and_left (through s.uses chosen) (through s.uses rest) both)) (and_right (through s.uses chosen) (through s.uses rest) both))) k

pub at-branch : (own : Declared) (kids : Kids) → Monotone kids → (taken : Bool) (e : E) (a b rest : Body) (os : List Open) → IsFineAt own kids (Next (If e a b) rest) os → IsFineAt own kids (append (if taken then a else b) rest) os
at-branch own kids mono taken e a b rest os h =
    let chosen : Body = if taken then a else b in
    at-step own kids kids (Next (If e a b) rest) (append chosen rest) os
    (λ f. fine-append own (openings_of os) (children_of kids) chosen rest (taken-of (IsFine own (openings_of os) (children_of kids)) taken a b f.1.0 f.1.1)
    (fine-fewer own (openings_of os) (behind (children_of kids) chosen) (behind_one (children_of kids) (If e a b)) (λ T. taken-or (λ c. behind (children_of kids) c T) taken a b) rest f.2))
    (λ g o more is. behind-branch kids mono taken e a b rest o.group) h

-- each child of the one is among the other, and isn't awaited by the wait
abbrev pub UnawaitedBy : Option (List Use) → Kids → Kids → Type 0
UnawaitedBy w now before = (test : Sibling → Bool) → now test ≡ true → before (λ s. test s && not (awaits w s.uses)) ≡ true

pub behind-wait : (before now : Kids) → Monotone before → (w : Option (List Use)) (rest : Body) (g : ℕ) → UnawaitedBy w now before
    → FewerKids (kids_behind now rest g) (kids_behind before (Next (Wait w) rest) g)
behind-wait before now mono w rest g le T k =
    mono _ (λ s. through s.uses (Next (Wait w) rest) && (not (is_in g s) && T s)) (λ s. turned (through s.uses rest) (not (is_in g s) && T s) (not (awaits w s.uses)))
    (le (λ s. through s.uses rest && (not (is_in g s) && T s)) k)
  where
    turned : (t x n : Bool) → ((t && x) && n) ≡ true → ((n && t) && x) ≡ true
    turned true true n k = and_true (n && true) true (and_true n true k refl) refl
    turned t x n k = absurd (true≢false (sym k))

-- a wait: whoever waits goes on only once none is left of those that it awaits
pub at-wait : (own : Declared) (before now : Kids) → Monotone before → (w : Option (List Use)) (rest : Body) (os : List Open) → UnawaitedBy w now before
    → IsFineAt own before (Next (Wait w) rest) os → IsFineAt own now rest os
at-wait own before now mono w rest os le h =
    at-step own before now (Next (Wait w) rest) rest os
    (λ f. fine-fewer own (openings_of os) (children_of now) (behind_one (children_of before) (Wait w)) (λ T. le (λ s. T s.uses)) rest f.2)
    (λ g o more is. behind-wait before now mono w rest o.group le) h

-- a child is created in each group that is open: behind their ends it is none that may be unawaited
pub behind-task : (kids : Kids) (rest : Body) (g : ℕ) (new : Sibling) → is_in g new ≡ true → FewerKids (kids_behind (λ test. kids test || test new) rest g) (kids_behind kids rest g)
behind-task kids rest g new here T k =
    first_true (kids (λ s. through s.uses rest && (not (is_in g s) && T s))) (through new.uses rest) (is_in g new) (T new) here k
  where
    first_true : (a t i x : Bool) → i ≡ true → (a || (t && (not i && x))) ≡ true → a ≡ true
    first_true false true false x here k = absurd (true≢false (sym here))
    first_true true t i x here k = refl
    first_true a t i x here k = k

pub at-task : (own : Declared) (kids : Kids) (d : List Use) (b rest : Body) (os : List Open) (new : Sibling) → new.uses ≡ d
    → ((o : Open) (more : List Open) → os ≡ o ∷ more → is_in o.group new ≡ true)
    → IsFineAt own kids (Next (Task d b) rest) os → IsFineAt own (λ test. kids test || test new) rest os
at-task own kids d b rest os new is inside h =
    at-step own kids (λ test. kids test || test new) (Next (Task d b) rest) rest os
    (λ f. fine-fewer own (openings_of os) (children_of (λ test. kids test || test new)) (behind_one (children_of kids) (Task d b))
    (λ T k. subst (λ u. (kids (λ s. T s.uses) || T u) ≡ true) is k) rest f.2)
    (λ g o more e. behind-task kids rest o.group new (inside o more e)) h

-- a group is entered
module _ (kids : Kids) (mono : Monotone kids) (op : Operation) (cs : List Cell) (b rest : Body) (g : ℕ) where
  pub enter-fewer : AreFewer (children_of (kids_behind kids b g)) (behind_one (children_of kids) (Group op cs b))
  enter-fewer T k = mono _ (λ s. T s.uses && through s.uses b) (λ s. swap (through s.uses b) (not (is_in g s)) (T s.uses)) k
    where
      swap : (t n x : Bool) → (t && (n && x)) ≡ true → (x && t) ≡ true
      swap t n x k = and_true x t (and_right n x (and_right t (n && x) k)) (and_left t (n && x) k)

  pub behind-enter : (p : ℕ) → FewerKids (kids_behind (kids_behind kids b g) rest p) (kids_behind kids (Next (Group op cs b) rest) p)
  behind-enter p T k = mono _ (λ s. through s.uses (Next (Group op cs b) rest) && (not (is_in p s) && T s))
      (λ s. again (through s.uses b) (not (is_in g s)) (through s.uses rest) (not (is_in p s) && T s)) k
    where
      again : (t n r x : Bool) → (t && (n && (r && x))) ≡ true → ((t && r) && x) ≡ true
      again t n r x k =
          let later = and_right n (r && x) (and_right t (n && (r && x)) k) in
          and_true (t && r) x (and_true t r (and_left t (n && (r && x)) k) (and_left r x later)) (and_right r x later)

pub at-enter : (own : Declared) (kids : Kids) (op : Operation) (cs : List Cell) (b rest : Body) (g : ℕ) (os : List Open) → Monotone kids
    → IsFineAt own kids (Next (Group op cs b) rest) os → IsFineAt own kids b (record { group = g; op = op; cells = cs; behind = rest } ∷ os)
at-enter own kids op cs b rest g [] mono h =
    (h.1, fine-fewer own nothing_open (children_of (kids_behind kids b g)) (behind_one (children_of kids) (Group op cs b)) (enter-fewer kids mono op cs b rest g) rest h.2)
at-enter own kids op cs b rest g (o ∷ os) mono h = (
  h.0.1,
  at-step own kids (kids_behind kids b g) (Next (Group op cs b) rest) rest (o ∷ os)
      (λ f. fine-fewer own (openings_of (o ∷ os)) (children_of (kids_behind kids b g)) (behind_one (children_of kids) (Group op cs b)) (enter-fewer kids mono op cs b rest g) rest f.2)
      (λ n p more e. behind-enter kids mono op cs b rest g p.group) h,
)

-- a group's end is passed: no child of it is left
pub at-leave : (own : Declared) (kids : Kids) (o : Open) (os : List Open)
    → ((test : Sibling → Bool) → kids test ≡ true → kids (λ s. not (is_in o.group s) && test s) ≡ true)
    → IsFineAt own kids End (o ∷ os) → IsFineAt own kids o.behind os
at-leave own kids o os none h = at-fewer own kids (kids_behind kids End o.group) o.behind os none h.1

-- ---- entering a group and passing its end leave what holds of a region

pub touch-append : (P : Use → Type 0) (a b : Body) → EachTouch P a → EachTouch P b → EachTouch P (append a b)
touch-append P End b h g = g
touch-append P (Next x a) b h g = (h.0, touch-append P a b h.1 g)

pub task-append : (P : List Use → Body → Type 0) (a b : Body) → EachTask P a → EachTask P b → EachTask P (append a b)
task-append P End b h g = g
task-append P (Next x a) b h g = (h.0, task-append P a b h.1 g)

-- what is true of no child that may be unawaited is true of no unfinished one
pub kid-none : (kids : List Sibling) (test : Sibling → Bool) (k : ℕ) (s : Sibling) → list_any (λ s. is_unfinished s && test s) kids ≡ false → slice_get kids k ≡ Some s → s.finished ≡ false → test s ≡ false
kid-none [] test k s free there alive = cc
kid-none (x ∷ kids) test zero s free there alive =
    let here : x ≡ s = cc in
    false_from_ne_true (test s) (λ e. true≢false (sym (and_true (is_unfinished s) (test s) (ap not alive) e)
    ∙ subst (λ (y : Sibling). (is_unfinished y && test y) ≡ false) here (or_false_left (is_unfinished x && test x) (list_any (λ s. is_unfinished s && test s) kids) free)))
kid-none (x ∷ kids) test (suc k) s free there alive = kid-none kids test k s (or_false_right (is_unfinished x && test x) (list_any (λ s. is_unfinished s && test s) kids) free) there alive

-- a group names no cell that an unfinished child may use
pub unused : (cs : List Cell) (kids : List Sibling) (k : ℕ) (s : Sibling) (c : Cell) → list_any (λ c. unfinished_unawaited None kids (λ s. clashes (use_as Writes c) s.uses)) cs ≡ false
    → slice_get kids k ≡ Some s → s.finished ≡ false → has_cell cs c ≡ true
    → (m : Mode) → allows (Some s.uses) (use_as m c) ≡ false
unused cs kids k s c free there alive named m =
    let taken = λ (d : Cell). unfinished_unawaited None kids (λ s. clashes (use_as Writes d) s.uses) in
    let here : taken c ≡ false = false_from_ne_true (taken c) (λ yes.
    true≢false (sym (any-more (λ d. same_cell d c) taken cs (λ d e. subst (λ x. taken x ≡ true) (sym (same_is d c e)) yes) named) ∙ free)) in
    false_from_ne_true (allows (Some s.uses) (use_as m c)) (λ may.
    conflicts_writes m (clash_free (use_as Writes c) (use_as m c) s.uses (kid-none kids (λ s. clashes (use_as Writes c) s.uses) k s here there alive) may refl))

-- a group that is no offence names cells that the body may write, that no open group names, and that no child clashes with
pub clean-group : (r : Region) (op : Operation) (cs : List Cell) (b : Body) → r.waiting ≡ None → IsClean r.own (openings_of r.groups) (children_of (unfinished_unawaited r.waiting r.children)) (Group op cs b)
    → (list_any (λ c. not (allows r.own (use_as Writes c)) || opened_by_any (openings_of r.groups) c) cs ≡ false) × (list_any (λ c. unfinished_unawaited None r.children (λ s. clashes (use_as Writes c) s.uses)) cs ≡ false)
clean-group r op cs b calm clean = (
  sym (is_offence-Group r.own (openings_of r.groups) (children_of (unfinished_unawaited r.waiting r.children)) op cs b ReductionMisuse) ∙ clean ReductionMisuse,
  ap (λ w. list_any (λ c. unfinished_unawaited w r.children (λ s. clashes (use_as Writes c) s.uses)) cs) (sym calm)
      ∙ sym (is_offence-Group r.own (openings_of r.groups) (children_of (unfinished_unawaited r.waiting r.children)) op cs b ConflictsWithChild) ∙ clean ConflictsWithChild,
)

module _ (r : Region) (p : IsSoundRegion r) where
  pub placed-enter : (g : ℕ) (op : Operation) (cs : List Cell) (b rest : Body) → r.rest ≡ Next (Group op cs b) rest → r.waiting ≡ None
      → IsClean r.own (openings_of r.groups) (children_of (unfinished_unawaited r.waiting r.children)) (Group op cs b)
      → IsFineAt r.own (unfinished_unawaited r.waiting r.children) b (record { group = g; op = op; cells = cs; behind = rest } ∷ r.groups)
      → ((uses : List Use) → r.own ≡ Some uses → AwaitsAll (unfinished_unawaited r.waiting r.children) b (record { group = g; op = op; cells = cs; behind = rest } ∷ r.groups))
      → IsSoundRegion (inside g op cs b (with_rest rest r))
  placed-enter g op cs b rest was calm clean fine awaits = record {
    fine = fine;
    inside = let t = subst (EachTouch (λ u. allows r.own u ≡ true)) (ap (λ x. todo x r.groups) was ∙ todo-next (Group op cs b) rest r.groups) p.inside in
        touch-append (λ u. allows r.own u ≡ true) b (todo rest r.groups) t.0 t.1;
    tasks = let t = subst (EachTask LetsAll) (ap (λ x. todo x r.groups) was ∙ todo-next (Group op cs b) rest r.groups) p.tasks in
        task-append LetsAll b (todo rest r.groups) t.0 t.1;
    awaits = awaits;
    within = p.within;
    apart = p.apart;
    over = λ e. absurd (never (sym (sym (ap (λ x. todo x r.groups) was ∙ todo-next (Group op cs b) rest r.groups) ∙ p.over e)));
    shut = λ e. absurd (never (sym (sym (ap (λ x. todo x r.groups) was ∙ todo-next (Group op cs b) rest r.groups) ∙ p.over e)));
    once = ((λ o c named. opened-none (openings_of r.groups) o c (group_free r.own (openings_of r.groups) cs c fits named)), p.once);
    writes = groups_inside r.own (openings_of r.groups) op cs p.writes fits;
    grouped = λ k s there alive o c folds. ⊎_elim (λ e. inl e) (λ e. inr (or_right ((same_fold op o && has_cell cs c) && is_in g s) (grouped_in r.groups s o c) e)) (p.grouped k s there alive o c folds);
    reduced = λ k s there alive o c here. ⊎_elim (λ e. p.reduced k s there alive o c e)
        (λ e m may. absurd (true≢false (sym may ∙ unused cs r.children k s c awaited there alive (and_right (same_fold op o) (has_cell cs c) e) m)))
        (or_true (openings_of r.groups o c) (same_fold op o && has_cell cs c) here);
    exclusive = p.exclusive;
  }
    where
      never : {x : S} {y : Body} → End ≡ Next x y → ⊥
      never e = cc

      fits : list_any (λ c. not (allows r.own (use_as Writes c)) || opened_by_any (openings_of r.groups) c) cs ≡ false
      fits = (clean-group r op cs b calm clean).0

      awaited : list_any (λ c. unfinished_unawaited None r.children (λ s. clashes (use_as Writes c) s.uses)) cs ≡ false
      awaited = (clean-group r op cs b calm clean).1

  pub placed-leave : (o : Open) (os : List Open) → r.rest ≡ End → r.groups ≡ o ∷ os
      → ((k : ℕ) (s : Sibling) → slice_get r.children k ≡ Some s → s.finished ≡ false → is_in o.group s ≡ false)
      → IsFineAt r.own (unfinished_unawaited r.waiting r.children) o.behind os
      → ((uses : List Use) → r.own ≡ Some uses → AwaitsAll (unfinished_unawaited r.waiting r.children) o.behind os) → IsSoundRegion (record r { rest = o.behind; groups = os })
  placed-leave o os was here none fine awaits = record {
    fine = fine;
    inside = subst (EachTouch (λ u. allows r.own u ≡ true)) same p.inside;
    tasks = subst (EachTask LetsAll) same p.tasks;
    awaits = awaits;
    within = p.within;
    apart = p.apart;
    over = λ e. sym same ∙ p.over e;
    shut = λ e. let none : o ∷ os ≡ [] = sym here ∙ p.shut e in cc;
    once = (subst NamedOnce here p.once).1;
    writes = λ by c h. p.writes by c (ap (λ gs. openings_of gs by c) here ∙ true_or (openings_of os by c) (same_fold o.op by && has_cell o.cells c) h);
    grouped = λ k s there alive by c folds. ⊎_elim (λ e. inl e)
        (λ e. inr (outer (same_fold o.op by && has_cell o.cells c) (is_in o.group s) (grouped_in os s by c) (none k s there alive) (sym (ap (λ gs. grouped_in gs s by c) here) ∙ e))) (p.grouped k s there alive by c folds);
    reduced = λ k s there alive by c h. p.reduced k s there alive by c (ap (λ gs. openings_of gs by c) here ∙ true_or (openings_of os by c) (same_fold o.op by && has_cell o.cells c) h);
    exclusive = p.exclusive;
  }
    where
      same : todo r.rest r.groups ≡ todo o.behind os
      same = ap (λ x. todo x r.groups) was ∙ ap (todo End) here

      outer : (a i b : Bool) → i ≡ false → ((a && i) || b) ≡ true → b ≡ true
      outer true true b h g = absurd (true≢false h)
      outer a i b h g = g
