-- What stands on some path is met by the walk.
use Rattle.std.proofs.Common.{◌≡◌, ◌≢◌, ℕ, ◌+◌, ◌++◌, Bool, true, not, ◌&&◌, ◌||◌, List, [], ◌∷◌, map, refl, sym, ap, subst, inl, inr, ◌∙◌, append_assoc, append-nil}
use Rattle.std.specs.Prelude.{◌⊎◌, Option, Some}
use Rattle.ot_model.specs.Cells.{same_fold}
use Rattle.std.specs.List.{list_any}
use Rattle.ot_model.specs.Tree.{S, Set, Fold, If, Task, Wait, Group, Body, End, Next, size, size_one}
use Rattle.ot_model.specs.declared.expr.Cell.{Cell}
use Rattle.ot_model.specs.declared.fold.Fold.{Fold as Operation}
use Rattle.ot_model.specs.declared.stmt.Mode.{Mode}
use Rattle.ot_model.specs.declared.stmt.Mode.TheVariants.{Reads, Writes, Folds}
use Rattle.ot_model.specs.declared.stmt.Use.{Use}
use Rattle.ot_check.specs.Offences.{Mark, Touch, Create, Await, Enter, Leave, Step, At, touch_steps, touches, use_as, PassesOne, Passes, Declared, Openings, folds_to, allows, breaks, misfits, misfits_as, has_cell, unawaited_uses, is_open, OnPath, InTasks, InTasksOfOne}
use Rattle.ot_check.specs.Discipline.{Children, may_break, anyone, nobody, nothing_open, behind_one, with_group, is_offence, marks, behind}
use Rattle.ot_check.proofs.Steps.{some_unawaited, closed_of, touched-balanced, touched-open, touched-unawaited, touched-awaited, passes_one-closed, passes_one-open, unawaited-append, open-append}
use Rattle.ot_check.specs.declared.fault.Offence.{Offence}
use Rattle.ot_check.specs.declared.fault.Offence.TheVariants.{ReductionMisuse, ConflictsWithChild, EndsWithChildren}
use Rattle.ot_check.proofs.OpeningLemmas.{opened-same}
use Rattle.ot_check.proofs.After.{IsListed, listed-list, listed-nobody, listed-behind_one, left-is, behind-from, behind-from_one}
use Rattle.ot_check.proofs.Meeting.{Meets, MeetsOne}
use Rattle.ot_check.proofs.Bits.{true_or, or_right, or_none, and_one, any-same, any-more}

-- ---- lists

-- a place in two lists is in the one or the other
pub append_split : {X : Type 0} (xs ys before : List X) (s : X) (later : List X) → xs ++ ys ≡ before ++ s ∷ later
    → ((rest : List X) × (xs ≡ before ++ s ∷ rest) × (later ≡ rest ++ ys)) ⊎ ((more : List X) × (before ≡ xs ++ more) × (ys ≡ more ++ s ∷ later))
append_split [] ys before s later h = inr (before, refl, h)
append_split (x ∷ xs) ys [] s later h =
    let first : x ≡ s = cc in
    let behind : xs ++ ys ≡ later = cc in
    inl (xs, ap (λ z. z ∷ xs) first, sym behind)
append_split (x ∷ xs) ys (b ∷ before) s later h =
    let first : x ≡ b = cc in
    let behind : xs ++ ys ≡ before ++ s ∷ later = cc in
    elim (append_split xs ys before s later behind) [
      | inl p ↦ inl (p.0, ap (λ z. z ∷ xs) first ∙ ap (λ zs. b ∷ zs) p.1, p.2)
      | inr p ↦ inr (p.0, ap (λ z. z ∷ before) (sym first) ∙ ap (λ zs. x ∷ zs) p.1, p.2)
    ]

misfits_as-same : (m : Mode) (own : Declared) (o p : Openings) (c : Cell) → ((by : Operation) (c : Cell) → o by c ≡ p by c) → misfits_as m own o c ≡ misfits_as m own p c
misfits_as-same Reads own o p c same = opened-same o p same c
misfits_as-same Writes own o p c same = opened-same o p same c
misfits_as-same (Folds by) own o p c same = ap (λ b. not (folds_to own by c) && not b) (same by c)

misfits-same : (own : Declared) (o p : Openings) (u : Use) → ((by : Operation) (c : Cell) → o by c ≡ p by c) → misfits own o u ≡ misfits own p u
misfits-same own o p u same = misfits_as-same u.mode own o p u.cell same

-- ---- which children there are

-- a list of children, told by what is true of some of them
pub may_break-breaks : (own : Declared) (opened : Openings) (children : List (List Use)) (mark : Mark) (offence : Offence)
    → may_break own opened (λ test. list_any test children) mark offence ≡ breaks own opened children mark offence
may_break-breaks own opened children (Touch u) ConflictsWithChild = refl
may_break-breaks own opened children (Create d) ConflictsWithChild = refl
may_break-breaks own opened children (Enter o cs) ConflictsWithChild = refl
may_break-breaks own opened children (Await w) ConflictsWithChild = refl
may_break-breaks own opened children Leave ConflictsWithChild = refl
may_break-breaks own opened children mark offence = refl

-- more children, the same groups
pub may_break-more : (own : Declared) (o p : Openings) (few many : Children) → ((by : Operation) (c : Cell) → o by c ≡ p by c)
    → ((test : List Use → Bool) → few test ≡ true → many test ≡ true) → (mark : Mark) (offence : Offence)
    → may_break own o few mark offence ≡ true → may_break own p many mark offence ≡ true
may_break-more own o p few many same more (Touch u) ReductionMisuse h = sym (opened-same o p same u.cell) ∙ h
may_break-more own o p few many same more (Touch u) ConflictsWithChild h = more _ h
may_break-more own o p few many same more (Create d) ReductionMisuse h =
    sym (any-same (misfits own o) (misfits own p) d (λ u. misfits-same own o p u same)) ∙ h
may_break-more own o p few many same more (Enter by cs) ReductionMisuse h = sym (any-same _ _ cs (λ c. ap (λ b. not (allows own (use_as Writes c)) || b) (opened-same o p same c))) ∙ h
may_break-more own o p few many same more (Enter by cs) ConflictsWithChild h = any-more _ _ cs (λ c. more _) h
may_break-more own o p few many same more (Await w) ConflictsWithChild h = h
may_break-more own o p few many same more Leave ConflictsWithChild h = h
may_break-more own o p few many same more mark offence h = h

-- ---- behind a prefix

-- the groups and children that the walk has are at least those behind a prefix
pub record Holds (prefix : List Step) (opened : Openings) (children : Children) : Type 0 where
  pub groups : (o : Operation) (c : Cell) → is_open prefix o c ≡ opened o c
  pub unawaited : (test : List Use → Bool) → some_unawaited test prefix ≡ true → children test ≡ true
  pub listed : IsListed children

-- a step of a touch changes neither
pub quiet-open : (o : Operation) (c : Cell) (prefix : List Step) (k : ℕ) (uses : List Use) → is_open (prefix ++ touch_steps k uses) o c ≡ is_open prefix o c
quiet-open o c prefix k uses =
    open-append o c prefix (touch_steps k uses) (closed_of (touch_steps k uses) (touched-balanced k uses))
    ∙ ap (λ b. is_open prefix o c || b) (ap (λ p. is_open p o c) (sym (append-nil (touch_steps k uses))) ∙ touched-open o c k uses []) ∙ or_none (is_open prefix o c)

pub quiet-unawaited : (test : List Use → Bool) (prefix : List Step) (k : ℕ) (uses : List Use)
    → some_unawaited test (prefix ++ touch_steps k uses) ≡ some_unawaited test prefix
quiet-unawaited test prefix k uses =
    unawaited-append test prefix (touch_steps k uses) (closed_of (touch_steps k uses) (touched-balanced k uses))
    ∙ ap (λ b. b || some_unawaited test (touch_steps k uses)) (any-same _ test (unawaited_uses prefix) (λ d.
    ap (λ w. test d && not w) (touched-awaited d k uses) ∙ and_one (test d)))
    ∙ ap (λ b. some_unawaited test prefix || b) (ap (some_unawaited test) (sym (append-nil (touch_steps k uses))) ∙ touched-unawaited test k uses [])
    ∙ or_none (some_unawaited test prefix)

holds-touched : (prefix : List Step) (opened : Openings) (children : Children) (k : ℕ) (uses : List Use) → Holds prefix opened children
    → Holds (prefix ++ touch_steps k uses) opened children
holds-touched prefix opened children k uses h = record {
  groups = λ o c. quiet-open o c prefix k uses ∙ h.groups o c;
  unawaited = λ test is. h.unawaited test (sym (quiet-unawaited test prefix k uses) ∙ is);
  listed = h.listed;
}

pub entered-open : (o : Operation) (c : Cell) (prefix : List Step) (k : ℕ) (by : Operation) (cs : List Cell)
    → is_open (prefix ++ At k (Enter by cs) ∷ []) o c ≡ (is_open prefix o c || (same_fold by o && has_cell cs c))
entered-open o c prefix k by cs =
    open-append o c prefix (At k (Enter by cs) ∷ []) (λ n. refl) ∙ ap (λ b. is_open prefix o c || b) (or_none ((same_fold by o && has_cell cs c) && true) ∙ and_one (same_fold by o && has_cell cs c))

pub entered-unawaited : (test : List Use → Bool) (prefix : List Step) (k : ℕ) (by : Operation) (cs : List Cell)
    → some_unawaited test (prefix ++ At k (Enter by cs) ∷ []) ≡ some_unawaited test prefix
entered-unawaited test prefix k by cs =
    unawaited-append test prefix (At k (Enter by cs) ∷ []) (λ n. refl)
    ∙ or_none (some_unawaited (λ d. test d && true) prefix) ∙ any-same _ test (unawaited_uses prefix) (λ d. and_one (test d))

holds-entered : (prefix : List Step) (opened : Openings) (children : Children) (k : ℕ) (by : Operation) (cs : List Cell) → Holds prefix opened children
    → Holds (prefix ++ At k (Enter by cs) ∷ []) (with_group opened by cs) children
holds-entered prefix opened children k by cs h = record {
  groups = λ o c. entered-open o c prefix k by cs ∙ ap (λ b. b || (same_fold by o && has_cell cs c)) (h.groups o c);
  unawaited = λ test is. h.unawaited test (sym (entered-unawaited test prefix k by cs) ∙ is);
  listed = h.listed;
}

pub passed-open : (o : Operation) (c : Cell) (prefix : List Step) (k : ℕ) (x : S) (one : List Step) → PassesOne k x one → is_open (prefix ++ one) o c ≡ is_open prefix o c
passed-open o c prefix k x one h =
    open-append o c prefix one (passes_one-closed k x one h)
    ∙ ap (λ b. is_open prefix o c || b) (ap (λ p. is_open p o c) (sym (append-nil one)) ∙ passes_one-open o c k x one h []) ∙ or_none (is_open prefix o c)

holds-passed : (prefix : List Step) (opened : Openings) (children : Children) (k : ℕ) (x : S) (one : List Step) → PassesOne k x one
    → Holds prefix opened children → Holds (prefix ++ one) opened (behind_one children x)
holds-passed prefix opened children k x one passes h = record {
  groups = λ o c. passed-open o c prefix k x one passes ∙ h.groups o c;
  unawaited = λ test is. behind-from_one k x one passes (λ test. some_unawaited test prefix) children (listed-list (unawaited_uses prefix)) h.listed h.unawaited test
      (left-is (λ test. some_unawaited test prefix) one test ∙ sym (unawaited-append test prefix one (passes_one-closed k x one passes)) ∙ is);
  listed = listed-behind_one children x h.listed;
}

-- a mark behind a prefix and some steps is an offence
abbrev pub BreaksBehind : List Step → List Step → Declared → Mark → Offence → Type 0
BreaksBehind prefix before own mark offence =
    may_break own (is_open (prefix ++ before)) (λ test. some_unawaited test (prefix ++ before)) mark offence ≡ true

behind-more : (prefix more before : List Step) (own : Declared) (mark : Mark) (offence : Offence)
    → BreaksBehind prefix (more ++ before) own mark offence → BreaksBehind (prefix ++ more) before own mark offence
behind-more prefix more before own mark offence h =
    subst (λ p. may_break own (is_open p) (λ test. some_unawaited test p) mark offence ≡ true) (sym (append_assoc prefix more before)) h

here-breaks : (prefix : List Step) (opened : Openings) (children : Children) (own : Declared) (mark : Mark) (offence : Offence)
    → Holds prefix opened children → BreaksBehind prefix [] own mark offence → may_break own opened children mark offence ≡ true
here-breaks prefix opened children own mark offence h is =
    may_break-more own (is_open prefix) opened (λ test. some_unawaited test prefix) children h.groups h.unawaited mark offence
    (subst (λ p. may_break own (is_open p) (λ test. some_unawaited test p) mark offence ≡ true) (append-nil prefix) is)

-- an offence among the touches of a statement
touched-meets : (own : Declared) (opened : Openings) (children : Children) (k : ℕ) (uses : List Use) (prefix before later : List Step)
    (place : ℕ) (mark : Mark) (offence : Offence) → Holds prefix opened children → touch_steps k uses ≡ before ++ At place mark ∷ later
    → BreaksBehind prefix before own mark offence
    → (place ≡ k) × (list_any (λ m. may_break own opened children m offence) (map Touch uses) ≡ true)
touched-meets own opened children k [] prefix [] later place mark offence holds is h = cc
touched-meets own opened children k [] prefix (b ∷ before) later place mark offence holds is h = cc
touched-meets own opened children k (u ∷ uses) prefix [] later place mark offence holds is h =
    let step : At k (Touch u) ≡ At place mark = cc in
    let at_place : k ≡ place = cc in
    let what : Touch u ≡ mark = cc in
    (sym at_place, true_or _ _ (ap (λ m. may_break own opened children m offence) what ∙ here-breaks prefix opened children own mark offence holds h))
touched-meets own opened children k (u ∷ uses) prefix (b ∷ before) later place mark offence holds is h =
    let step : At k (Touch u) ≡ b = cc in
    let rest : touch_steps k uses ≡ before ++ At place mark ∷ later = cc in
    let moved : BreaksBehind (prefix ++ At k (Touch u) ∷ []) before own mark offence =
    behind-more prefix (At k (Touch u) ∷ []) before own mark offence (subst (λ s. BreaksBehind prefix (s ∷ before) own mark offence) (sym step) h) in
    let q = touched-meets own opened children k uses (prefix ++ At k (Touch u) ∷ []) before later place mark offence
    (holds-touched prefix opened children k (u ∷ []) holds) rest moved in
    (q.0, or_right _ _ q.1)

-- ---- what stands on a path is met

pub nothing-breaks : (own : Declared) (o : Openings) (p : Children) (w : Option (List Use)) (offence : Offence) → may_break own o p (Await w) offence ≡ true → ⊥
nothing-breaks own o p w ConflictsWithChild h = cc
nothing-breaks own o p w offence h = cc

pub end-breaks : (own : Declared) (o : Openings) (p : Children) (offence : Offence) → may_break own o p Leave offence ≡ true → ⊥
end-breaks own o p ConflictsWithChild h = cc
end-breaks own o p offence h = cc

-- the only step of a list of one
only : (s : Step) (before : List Step) (t : Step) (later : List Step) → s ∷ [] ≡ before ++ t ∷ later → (before ≡ []) × (s ≡ t)
only s [] t later h = let e : s ≡ t = cc in (refl, e)
only s (b ∷ []) t later h = let e : [] ≡ t ∷ later = cc in cc
only s (b ∷ c ∷ before) t later h = let e : [] ≡ c ∷ (before ++ t ∷ later) = cc in cc

mutual
  meets-from_one : (own : Declared) (opened : Openings) (children : Children) (k : ℕ) (x : S) (prefix before later : List Step)
      (place : ℕ) (mark : Mark) (offence : Offence) → Holds prefix opened children → PassesOne k x (before ++ At place mark ∷ later)
      → BreaksBehind prefix before own mark offence → MeetsOne own opened children k x place offence
  meets-from_one own opened children k (Set c e) prefix before later place mark offence holds is h =
      let q = touched-meets own opened children k (touches (Set c e)) prefix before later place mark offence holds (sym is) h in
      inl (q.0, true_or _ _ q.1)
  meets-from_one own opened children k (Fold o c e) prefix before later place mark offence holds is h =
      let q = touched-meets own opened children k (touches (Fold o c e)) prefix before later place mark offence holds (sym is) h in
      inl (q.0, true_or _ _ q.1)
  meets-from_one own opened children k (If e a b) prefix before later place mark offence holds (inside, is, way) h =
      elim (append_split (touch_steps k (touches (If e a b))) inside before (At place mark) later (sym is)) [
        | inl p ↦
            let q = touched-meets own opened children k (touches (If e a b)) prefix before p.0 place mark offence holds p.1 h in
            inl (q.0, true_or _ _ q.1)
        | inr p ↦
            let held = holds-touched prefix opened children k (touches (If e a b)) holds in
            let moved = behind-more prefix (touch_steps k (touches (If e a b))) p.0 own mark offence
            (subst (λ b. BreaksBehind prefix b own mark offence) p.1 h) in
            inr (elim way [
              | inl one ↦ inl (meets-from own opened children (k + 1) a (prefix ++ touch_steps k (touches (If e a b))) p.0 later place mark offence held
                  (subst (Passes (k + 1) a) p.2 one) moved)
              | inr two ↦ inr (meets-from own opened children (k + 1 + size a) b (prefix ++ touch_steps k (touches (If e a b))) p.0 later place mark offence held
                  (subst (Passes (k + 1 + size a) b) p.2 two) moved)
            ])
      ]
  meets-from_one own opened children k (Task d b) prefix before later place mark offence holds is h =
      let o = only (At k (Create d)) before (At place mark) later (sym is) in
      let at_place : k ≡ place = cc in
      let what : Create d ≡ mark = cc in
      inl (
        sym at_place,
        true_or _ _ (true_or _ _ (ap (λ m. may_break own opened children m offence) what
            ∙ here-breaks prefix opened children own mark offence holds (subst (λ b. BreaksBehind prefix b own mark offence) o.0 h))),
      )
  meets-from_one own opened children k (Wait w) prefix before later place mark offence holds is h =
      let o = only (At k (Await w)) before (At place mark) later (sym is) in
      let what : mark ≡ Await w = cc in
      absurd (nothing-breaks own opened children w offence (ap (λ m. may_break own opened children m offence) (sym what)
      ∙ here-breaks prefix opened children own mark offence holds (subst (λ b. BreaksBehind prefix b own mark offence) o.0 h)))
  meets-from_one own opened children k (Group o cs b) prefix [] later place mark offence holds (inside, is, way) h =
      let at_place : k ≡ place = cc in
      let what : Enter o cs ≡ mark = cc in
      inl (
        sym at_place,
        true_or _ _ (true_or _ _ (ap (λ m. may_break own opened children m offence) what
            ∙ here-breaks prefix opened children own mark offence holds h)),
      )
  meets-from_one own opened children k (Group o cs b) prefix (s ∷ before) later place mark offence holds (inside, is, way) h =
      let step : At k (Enter o cs) ≡ s = cc in
      let rest : inside ++ At k Leave ∷ [] ≡ before ++ At place mark ∷ later = cc in
      let moved : BreaksBehind (prefix ++ At k (Enter o cs) ∷ []) before own mark offence =
      behind-more prefix (At k (Enter o cs) ∷ []) before own mark offence (subst (λ s. BreaksBehind prefix (s ∷ before) own mark offence) (sym step) h) in
      let held = holds-entered prefix opened children k o cs holds in
      elim (append_split inside (At k Leave ∷ []) before (At place mark) later rest) [
        | inl p ↦ inr (meets-from own (with_group opened o cs) children (k + 1) b (prefix ++ At k (Enter o cs) ∷ []) before p.0 place mark offence held
            (subst (Passes (k + 1) b) p.1 way) moved)
        | inr p ↦
            let last = only (At k Leave) p.0 (At place mark) later p.2 in
            let what : mark ≡ Leave = cc in
            absurd (end-breaks own (is_open ((prefix ++ At k (Enter o cs) ∷ []) ++ before)) (λ test. some_unawaited test ((prefix ++ At k (Enter o cs) ∷ []) ++ before)) offence (subst (λ m. BreaksBehind (prefix ++ At k (Enter o cs) ∷ []) before own m offence) what moved))
      ]

  pub meets-from : (own : Declared) (opened : Openings) (children : Children) (k : ℕ) (b : Body) (prefix before later : List Step)
      (place : ℕ) (mark : Mark) (offence : Offence) → Holds prefix opened children → Passes k b (before ++ At place mark ∷ later)
      → BreaksBehind prefix before own mark offence → Meets own opened children k b place offence
  meets-from own opened children k End prefix [] later place mark offence holds is h = cc
  meets-from own opened children k End prefix (s ∷ before) later place mark offence holds is h = cc
  meets-from own opened children k (Next x rest) prefix before later place mark offence holds (one, behind, is, way, on) h =
      elim (append_split one behind before (At place mark) later (sym is)) [
        | inl p ↦ inl (meets-from_one own opened children k x prefix before p.0 place mark offence holds (subst (PassesOne k x) p.1 way) h)
        | inr p ↦ inr (meets-from own opened (behind_one children x) (k + size_one x) rest (prefix ++ one) p.0 later place mark offence
            (holds-passed prefix opened children k x one way holds) (subst (Passes (k + size_one x) rest) p.2 on)
            (behind-more prefix one p.0 own mark offence (subst (λ b. BreaksBehind prefix b own mark offence) p.1 h)))
      ]

holds-nothing : Holds [] nothing_open nobody
holds-nothing = record { groups = λ o c. refl; unawaited = λ test h. h; listed = listed-nobody }

pub meets-on_path : (k : ℕ) (b : Body) (own : Declared) (place : ℕ) (offence : Offence) → OnPath k b own place offence
    → Meets own nothing_open nobody k b place offence
meets-on_path k b own place offence (before, later, mark, way, h) =
    meets-from own nothing_open nobody k b [] before later place mark offence holds-nothing way
    (may_break-breaks own (is_open before) (unawaited_uses before) mark offence ∙ h)

pub someone_there : (children : List (List Use)) → children ≢ [] → list_any anyone children ≡ true
someone_there [] h = absurd (h refl)
someone_there (d ∷ children) h = refl

pub there_someone : (children : List (List Use)) → list_any anyone children ≡ true → children ≢ []
there_someone [] h = cc
there_someone (d ∷ children) h = λ e. cc

-- so is what stands in a task
mutual
  meets-in_tasks_one : (own : Declared) (opened : Openings) (children : Children) (k : ℕ) (x : S) (place : ℕ) (offence : Offence)
      → InTasksOfOne k x place offence → MeetsOne own opened children k x place offence
  meets-in_tasks_one own opened children k (Set c e) place offence h = absurd h
  meets-in_tasks_one own opened children k (Fold o c e) place offence h = absurd h
  meets-in_tasks_one own opened children k (If e a b) place offence (inl h) = inr (inl (meets-in_tasks own opened children (k + 1) a place offence h))
  meets-in_tasks_one own opened children k (If e a b) place offence (inr h) = inr (inr (meets-in_tasks own opened children (k + 1 + size a) b place offence h))
  meets-in_tasks_one own opened children k (Task d b) place offence (inl (here, is, left)) =
      let ends : behind nobody b anyone ≡ true =
      behind-from (k + 1) b left.0 left.1 nobody nobody listed-nobody listed-nobody (λ test e. e) anyone
      (left-is nobody left.0 anyone ∙ someone_there (unawaited_uses left.0) left.2) in
      inl (here, subst (λ c. is_offence own opened children (Task d b) c ≡ true) (sym is) (or_right (list_any (λ m. may_break own opened children m EndsWithChildren) (marks (Task d b))) (behind nobody b anyone) ends))
  meets-in_tasks_one own opened children k (Task d b) place offence (inr (inl h)) = inr (meets-on_path (k + 1) b (Some d) place offence h)
  meets-in_tasks_one own opened children k (Task d b) place offence (inr (inr h)) = inr (meets-in_tasks (Some d) nothing_open nobody (k + 1) b place offence h)
  meets-in_tasks_one own opened children k (Wait w) place offence h = absurd h
  meets-in_tasks_one own opened children k (Group o cs b) place offence h = inr (meets-in_tasks own (with_group opened o cs) children (k + 1) b place offence h)

  pub meets-in_tasks : (own : Declared) (opened : Openings) (children : Children) (k : ℕ) (b : Body) (place : ℕ) (offence : Offence)
      → InTasks k b place offence → Meets own opened children k b place offence
  meets-in_tasks own opened children k End place offence h = absurd h
  meets-in_tasks own opened children k (Next x rest) place offence (inl h) = inl (meets-in_tasks_one own opened children k x place offence h)
  meets-in_tasks own opened children k (Next x rest) place offence (inr h) =
      inr (meets-in_tasks own opened (behind_one children x) (k + size_one x) rest place offence h)
