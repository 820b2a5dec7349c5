-- The children that may be unawaited, where a task stands and at its end.
use Rattle.std.proofs.Common.{◌≡◌, ℕ, Bool, true, false, not, ◌&&◌, ◌||◌, List, [], ◌∷◌, Option, refl, sym, subst, ◌∙◌, Some, None, true≢false, if◌then◌else◌}
use Rattle.ot_job.proofs.Common.{E, Set, Fold, If, Task, Wait, Group, Body, End, Next, append, Cell, Operation, Use, Sibling, is_in, Children, behind_one, AreAssigns, Open, Kids, children_of, kids_behind, AwaitsAll, list_any, is_unfinished, awaits, and_left, and_right, and_true, Waiting, is_awaited_at, is_held, unfinished_unawaited}
use Rattle.ot_check.specs.Discipline.{anyone, behind}
use Rattle.ot_check.proofs.Cited.{any-more, behind-more, false_below}
use Rattle.ot_job.proofs.PlaceLemmas.{FewerKids, Monotone, UnawaitedBy, behind-fewer, behind-branch, taken-or, behind-wait, behind-task, enter-fewer, behind-enter}

-- ---- a task's body ends with no child unawaited: step by step

behind-append : (children : Children) (a b : Body) (T : List Use → Bool) → behind children (append a b) T ≡ behind (behind children a) b T
behind-append children End b T = refl
behind-append children (Next x a) b T = behind-append (behind_one children x) a b T

pub awaits-fewer : (fewer kids : Kids) (rest : Body) (os : List Open) → FewerKids fewer kids → AwaitsAll kids rest os → AwaitsAll fewer rest os
awaits-fewer fewer kids rest [] le h =
    false_below (behind (children_of fewer) rest anyone) (behind (children_of kids) rest anyone) (behind-more (children_of fewer) (children_of kids) (λ T. le (λ s. T s.uses)) rest anyone) h
awaits-fewer fewer kids rest (o ∷ os) le h =
    awaits-fewer (kids_behind fewer rest o.group) (kids_behind kids rest o.group) o.behind os (behind-fewer fewer kids rest o.group le) h

pub awaits-step : (before now : Kids) (rest next : Body) (os : List Open)
    → (behind (children_of now) next anyone ≡ true → behind (children_of before) rest anyone ≡ true)
    → ((o : Open) (more : List Open) → os ≡ o ∷ more → FewerKids (kids_behind now next o.group) (kids_behind before rest o.group))
    → AwaitsAll before rest os → AwaitsAll now next os
awaits-step before now rest next [] moves le h = false_below (behind (children_of now) next anyone) (behind (children_of before) rest anyone) moves h
awaits-step before now rest next (o ∷ os) moves le h = awaits-fewer (kids_behind now next o.group) (kids_behind before rest o.group) o.behind os (le o os refl) h

pub awaits-branch : (kids : Kids) → Monotone kids → (taken : Bool) (e : E) (a b rest : Body) (os : List Open) → AwaitsAll kids (Next (If e a b) rest) os → AwaitsAll kids (append (if taken then a else b) rest) os
awaits-branch kids mono taken e a b rest os h =
    let children = children_of kids in
    let chosen : Body = if taken then a else b in
    awaits-step kids kids (Next (If e a b) rest) (append chosen rest) os
    (λ g. behind-more (behind children chosen) (behind_one children (If e a b)) (λ T. taken-or (λ c. behind children c T) taken a b) rest anyone (sym (behind-append children chosen rest anyone) ∙ g))
    (λ o more is. behind-branch kids mono taken e a b rest o.group) h

-- sets and folds
pub awaits-piece : (kids : Kids) (piece rest : Body) (os : List Open) → AreAssigns piece → AwaitsAll kids (append piece rest) os → AwaitsAll kids rest os
awaits-piece kids End rest os only h = h
awaits-piece kids (Next (Set c e) more) rest os only h =
    awaits-piece kids more rest os only (awaits-step kids kids (Next (Set c e) (append more rest)) (append more rest) os (λ g. g) (λ o later is T k. k) h)
awaits-piece kids (Next (Fold op c e) more) rest os only h =
    awaits-piece kids more rest os only (awaits-step kids kids (Next (Fold op c e) (append more rest)) (append more rest) os (λ g. g) (λ o later is T k. k) h)
awaits-piece kids (Next x more) rest os only h = absurd only

pub awaits-wait : (before now : Kids) → Monotone before → (w : Option (List Use)) (rest : Body) (os : List Open) → UnawaitedBy w now before
    → AwaitsAll before (Next (Wait w) rest) os → AwaitsAll now rest os
awaits-wait before now mono w rest os le h =
    awaits-step before now (Next (Wait w) rest) rest os
    (behind-more (children_of now) (behind_one (children_of before) (Wait w)) (λ T. le (λ s. T s.uses)) rest anyone)
    (λ o more is. behind-wait before now mono w rest o.group le) h

pub awaits-task : (kids : Kids) (d : List Use) (b rest : Body) (os : List Open) (new : Sibling) → new.uses ≡ d
    → ((o : Open) (more : List Open) → os ≡ o ∷ more → is_in o.group new ≡ true)
    → AwaitsAll kids (Next (Task d b) rest) os → AwaitsAll (λ test. kids test || test new) rest os
awaits-task kids d b rest os new is inside h =
    awaits-step kids (λ test. kids test || test new) (Next (Task d b) rest) rest os
    (behind-more (children_of (λ test. kids test || test new)) (behind_one (children_of kids) (Task d b))
    (λ T k. subst (λ u. (kids (λ s. T s.uses) || T u) ≡ true) is k) rest anyone)
    (λ o more e. behind-task kids rest o.group new (inside o more e)) h

pub awaits-enter : (kids : Kids) (op : Operation) (cs : List Cell) (b rest : Body) (g : ℕ) (os : List Open) → Monotone kids
    → AwaitsAll kids (Next (Group op cs b) rest) os → AwaitsAll kids b (record { group = g; op = op; cells = cs; behind = rest } ∷ os)
awaits-enter kids op cs b rest g os mono h =
    awaits-step kids (kids_behind kids b g) (Next (Group op cs b) rest) rest os
    (behind-more (children_of (kids_behind kids b g)) (behind_one (children_of kids) (Group op cs b)) (enter-fewer kids mono op cs b rest g) rest anyone)
    (λ p more e. behind-enter kids mono op cs b rest g p.group) h

pub awaits-leave : (kids : Kids) (o : Open) (os : List Open)
    → ((test : Sibling → Bool) → kids test ≡ true → kids (λ s. not (is_in o.group s) && test s) ≡ true) → AwaitsAll kids End (o ∷ os) → AwaitsAll kids o.behind os
awaits-leave kids o os none h = awaits-fewer kids (kids_behind kids End o.group) o.behind os none h

-- at the body's end nobody is left
pub awaits-end : (kids : Kids) → AwaitsAll kids End [] → kids (λ s. true) ≡ false
awaits-end kids h = h

-- ---- the children that may be unawaited where a task stands, at a wait and behind it

weaker-any : (kids : List Sibling) (f g : Sibling → Bool) → ((s : Sibling) → f s ≡ true → g s ≡ true)
    → list_any (λ s. is_unfinished s && f s) kids ≡ true → list_any (λ s. is_unfinished s && g s) kids ≡ true
weaker-any kids f g w h =
    any-more (λ s. is_unfinished s && f s) (λ s. is_unfinished s && g s) kids (λ s k. and_true (is_unfinished s) (g s) (and_left (is_unfinished s) (f s) k) (w s (and_right (is_unfinished s) (f s) k))) h

-- what is true of more is true of some child more often
pub monotone : (waiting : Waiting) (kids : List Sibling) (f g : Sibling → Bool) → ((s : Sibling) → f s ≡ true → g s ≡ true)
    → unfinished_unawaited waiting kids f ≡ true → unfinished_unawaited waiting kids g ≡ true
monotone waiting kids f g w h =
    weaker-any kids (λ s. not (is_awaited_at waiting s) && f s) (λ s. not (is_awaited_at waiting s) && g s)
    (λ s k. and_true (not (is_awaited_at waiting s)) (g s) (and_left (not (is_awaited_at waiting s)) (f s) k) (w s (and_right (not (is_awaited_at waiting s)) (f s) k))) h

-- at a wait: those that aren't awaited by it
pub executed-wait : (w : Option (List Use)) (kids : List Sibling) (test : Sibling → Bool)
    → unfinished_unawaited (Some w) kids test ≡ true → unfinished_unawaited None kids (λ s. test s && not (awaits w s.uses)) ≡ true
executed-wait w kids test h =
    weaker-any kids (λ s. not (awaits w s.uses) && test s) (λ s. test s && not (awaits w s.uses)) (λ s k.
    and_true (test s) (not (awaits w s.uses)) (and_right (not (awaits w s.uses)) (test s) k) (and_left (not (awaits w s.uses)) (test s) k)) h

-- a task that goes on has awaited whom its wait awaits: those that are unawaited are as at any other place
pub let-go : (waiting : Waiting) (kids : List Sibling) (test : Sibling → Bool) → is_held waiting kids ≡ false
    → unfinished_unawaited None kids test ≡ true → unfinished_unawaited waiting kids test ≡ true
let-go waiting [] test free h = h
let-go waiting (s ∷ kids) test free h =
    bits (is_unfinished s) (is_awaited_at waiting s) (test s) (is_held waiting kids) (unfinished_unawaited None kids test) (unfinished_unawaited waiting kids test) free h
    (λ rest later. let-go waiting kids test rest later)
  where
    bits : (u a t n l m : Bool) → ((u && a) || n) ≡ false → ((u && t) || l) ≡ true → (n ≡ false → l ≡ true → m ≡ true) → ((u && (not a && t)) || m) ≡ true
    bits true true t n l m x y f = absurd (true≢false x)
    bits true false true n l m x y f = refl
    bits true false false n l m x y f = f x y
    bits false a t n l m x y f = f x y

-- where no child is unfinished no wait holds the task
pub held-unfinished : (waiting : Waiting) (kids : List Sibling) → list_any is_unfinished kids ≡ false → is_held waiting kids ≡ false
held-unfinished waiting [] none = refl
held-unfinished waiting (s ∷ kids) none =
    bits (is_unfinished s) (is_awaited_at waiting s) (list_any is_unfinished kids) (is_held waiting kids) none (held-unfinished waiting kids)
  where
    bits : (u a n m : Bool) → (u || n) ≡ false → (n ≡ false → m ≡ false) → ((u && a) || m) ≡ false
    bits true a n m h f = absurd (true≢false h)
    bits false a n m h f = f h
