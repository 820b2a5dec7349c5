-- What the walk meets stands on some path.
use Rattle.std.proofs.Common.{◌≡◌, ℕ, ◌+◌, ◌++◌, Bool, true, false, ◌&&◌, ◌||◌, List, [], ◌∷◌, map, refl, sym, ap, subst, inl, inr, ◌∙◌, append_assoc, append-nil}
use Rattle.std.specs.Prelude.{◌⊎◌, Option, Some, None}
use Rattle.std.specs.List.{list_any}
use Rattle.ot_model.specs.Tree.{S, Set, Fold, If, Task, Wait, Group, Body, End, Next, size, size_one}
use Rattle.ot_model.specs.declared.expr.Cell.{Cell}
use Rattle.ot_model.specs.Cells.{same_fold}
use Rattle.ot_model.specs.declared.fold.Fold.{Fold as Operation}
use Rattle.ot_model.specs.declared.stmt.Use.{Use}
use Rattle.ot_check.specs.Offences.{Mark, Touch, Create, Await, Enter, Leave, Step, At, touch_steps, touches, PassesOne, Passes, Declared, Openings, has_cell, unawaited_uses, is_open, OnPath, InTasks, InTasksOfOne, Offends, IsFirstOf}
use Rattle.ot_check.specs.Discipline.{Children, may_break, anyone, nobody, nothing_open, behind_one, with_group, ends_with_children}
use Rattle.ot_check.specs.walk.Walk.{first}
use Rattle.ot_check.proofs.Steps.{some_unawaited, passes_one-closed, unawaited-append}
use Rattle.ot_check.specs.declared.fault.Offence.{Offence}
use Rattle.ot_check.specs.declared.fault.Offence.TheVariants.{NotDeclared, ChildBeyond, ReductionMisuse, ConflictsWithChild, EndsWithChildren}
use Rattle.ot_check.proofs.After.{IsListed, listed-nobody, listed-behind_one, kept, left_by, left-is, behind-to, behind-to_one, some_path, some_path_one}
use Rattle.ot_check.proofs.Meeting.{Meets, MeetsOne, meets-first}
use Rattle.ot_check.proofs.PathsTold.{may_break-breaks, may_break-more, there_someone, BreaksBehind, quiet-open, quiet-unawaited, entered-open, entered-unawaited, passed-open, meets-on_path, meets-in_tasks}
use Rattle.ot_check.proofs.Bits.{or_true, true_or, or_false, or_right}

-- ---- many prefixes

-- the groups are those of each prefix; each child that the walk has is unawaited behind one of them
pub record Reaches (I : Type 0) (prefix : I → List Step) (opened : Openings) (children : Children) : Type 0 where
  pub groups : (i : I) (o : Operation) (c : Cell) → opened o c ≡ is_open (prefix i) o c
  pub unawaited : (test : List Use → Bool) → children test ≡ true → (i : I) × (some_unawaited test (prefix i) ≡ true)
  pub listed : IsListed children
  pub someone : I

any-member : {I : Type 0} (F : I → Children) (all : Children) (test : Cell → List Use → Bool) (cs : List Cell)
    → ((t : List Use → Bool) → all t ≡ true → (i : I) × (F i t ≡ true))
    → list_any (λ c. all (test c)) cs ≡ true → (i : I) × (list_any (λ c. F i (test c)) cs ≡ true)
any-member F all test [] member h = cc
any-member F all test (c ∷ cs) member h =
    elim (or_true (all (test c)) (list_any (λ c. all (test c)) cs) h) [
      | inl one ↦ let q = member (test c) one in (q.0, true_or _ _ q.1)
      | inr more ↦ let q = any-member F all test cs member more in (q.0, or_right _ _ q.1)
    ]

-- a mark looks at one child alone
may_break-member : {I : Type 0} (F : I → Children) (all : Children) (own : Declared) (o : Openings) (mark : Mark) (offence : Offence)
    → ((t : List Use → Bool) → all t ≡ true → (i : I) × (F i t ≡ true)) → I
    → may_break own o all mark offence ≡ true → (i : I) × (may_break own o (F i) mark offence ≡ true)
may_break-member F all own o (Touch u) ConflictsWithChild member i h = member _ h
may_break-member F all own o (Create d) ConflictsWithChild member i h = (i, h)
may_break-member F all own o (Enter by cs) ConflictsWithChild member i h = any-member F all _ cs member h
may_break-member F all own o (Await w) ConflictsWithChild member i h = (i, h)
may_break-member F all own o Leave ConflictsWithChild member i h = (i, h)
may_break-member F all own o mark offence member i h = (i, h)

-- a mark of the statement itself, behind one of the prefixes
here-behind : {I : Type 0} (prefix : I → List Step) (opened : Openings) (children : Children) (own : Declared) (mark : Mark) (offence : Offence)
    → Reaches I prefix opened children → may_break own opened children mark offence ≡ true → (i : I) × BreaksBehind (prefix i) [] own mark offence
here-behind prefix opened children own mark offence reaches h =
    let q = may_break-member (λ i test. some_unawaited test (prefix i)) children own opened mark offence reaches.unawaited reaches.someone h in (
      q.0,
      subst (λ p. may_break own (is_open p) (λ test. some_unawaited test p) mark offence ≡ true) (sym (append-nil (prefix q.0)))
          (may_break-more own opened (is_open (prefix q.0)) (λ test. some_unawaited test (prefix q.0)) (λ test. some_unawaited test (prefix q.0))
          (reaches.groups q.0) (λ test is. is) mark offence q.1),
    )

reaches-touched : {I : Type 0} (prefix : I → List Step) (opened : Openings) (children : Children) (k : ℕ) (uses : List Use)
    → Reaches I prefix opened children → Reaches I (λ i. prefix i ++ touch_steps k uses) opened children
reaches-touched prefix opened children k uses h = record {
  groups = λ i o c. h.groups i o c ∙ sym (quiet-open o c (prefix i) k uses);
  unawaited = λ test is. let q = h.unawaited test is in (q.0, quiet-unawaited test (prefix q.0) k uses ∙ q.1);
  listed = h.listed;
  someone = h.someone;
}

reaches-entered : {I : Type 0} (prefix : I → List Step) (opened : Openings) (children : Children) (k : ℕ) (by : Operation) (cs : List Cell)
    → Reaches I prefix opened children → Reaches I (λ i. prefix i ++ At k (Enter by cs) ∷ []) (with_group opened by cs) children
reaches-entered prefix opened children k by cs h = record {
  groups = λ i o c. ap (λ b. b || (same_fold by o && has_cell cs c)) (h.groups i o c) ∙ sym (entered-open o c (prefix i) k by cs);
  unawaited = λ test is. let q = h.unawaited test is in (q.0, entered-unawaited test (prefix q.0) k by cs ∙ q.1);
  listed = h.listed;
  someone = h.someone;
}

-- a prefix, and a path through a statement behind it
abbrev Further : Type 0 → ℕ → S → Type 0
Further I k x = I × ((path : List Step) × PassesOne k x path)

abbrev further : {I : Type 0} (prefix : I → List Step) (k : ℕ) (x : S) → Further I k x → List Step
further prefix k x f = prefix f.0 ++ f.1.0

reaches-passed : {I : Type 0} (prefix : I → List Step) (opened : Openings) (children : Children) (k : ℕ) (x : S)
    → Reaches I prefix opened children → Reaches (Further I k x) (further prefix k x) opened (behind_one children x)
reaches-passed {I} prefix opened children k x h = record {
  groups = λ f o c. h.groups f.0 o c ∙ sym (passed-open o c (prefix f.0) k x f.1.0 f.1.1);
  unawaited = λ test is. found test (behind-to_one k x children h.listed test is);
  listed = listed-behind_one children x h.listed;
  someone = (h.someone, some_path_one k x);
}
  where
    found : (test : List Use → Bool) → ((path : List Step) × PassesOne k x path × (left_by children path test ≡ true))
        → (f : Further I k x) × (some_unawaited test (further prefix k x f) ≡ true)
    found test p =
        elim (or_true (children (kept test p.0)) (some_unawaited test p.0) (sym (left-is children p.0 test) ∙ p.2)) [
          | inl old ↦
              let q = h.unawaited (kept test p.0) old in (
                (q.0, (p.0, p.1)),
                unawaited-append test (prefix q.0) p.0 (passes_one-closed k x p.0 p.1)
                    ∙ true_or (some_unawaited (kept test p.0) (prefix q.0)) (some_unawaited test p.0) q.1,
              )
          | inr made ↦ (
            (h.someone, (p.0, p.1)),
            unawaited-append test (prefix h.someone) p.0 (passes_one-closed k x p.0 p.1)
                ∙ or_right (some_unawaited (kept test p.0) (prefix h.someone)) (some_unawaited test p.0) made,
          )
        ]

-- ---- an offence on a path, behind a prefix

abbrev pub Stands : List Step → (List Step → Type 0) → Declared → ℕ → Offence → Type 0
Stands prefix Path own place offence =
    (before : List Step) × (later : List Step) × (mark : Mark) × Path (before ++ At place mark ∷ later) × BreaksBehind prefix before own mark offence

-- behind more steps, and before them
stands-behind : (prefix more : List Step) (Path Whole : List Step → Type 0) (own : Declared) (place : ℕ) (offence : Offence)
    → ((p : List Step) → Path p → Whole (more ++ p)) → Stands (prefix ++ more) Path own place offence → Stands prefix Whole own place offence
stands-behind prefix more Path Whole own place offence whole (before, later, mark, way, h) = (
  more ++ before,
  later,
  mark,
  subst Whole (sym (append_assoc more before (At place mark ∷ later))) (whole (before ++ At place mark ∷ later) way),
  subst (λ p. may_break own (is_open p) (λ test. some_unawaited test p) mark offence ≡ true) (append_assoc prefix more before) h,
)

stands-before : (prefix more : List Step) (Path Whole : List Step → Type 0) (own : Declared) (place : ℕ) (offence : Offence)
    → ((p : List Step) → Path p → Whole (p ++ more)) → Stands prefix Path own place offence → Stands prefix Whole own place offence
stands-before prefix more Path Whole own place offence whole (before, later, mark, way, h) =
    (before, later ++ more, mark, subst Whole (append_assoc before (At place mark ∷ later) more) (whole (before ++ At place mark ∷ later) way), h)

-- an offence among the touches of a statement
touch-stands : {I : Type 0} (prefix : I → List Step) (opened : Openings) (children : Children) (own : Declared) (k : ℕ) (uses : List Use) (offence : Offence)
    → Reaches I prefix opened children → list_any (λ m. may_break own opened children m offence) (map Touch uses) ≡ true
    → (i : I) × Stands (prefix i) (λ p. p ≡ touch_steps k uses) own k offence
touch-stands prefix opened children own k [] offence reaches h = cc
touch-stands {I} prefix opened children own k (u ∷ uses) offence reaches h =
    elim (or_true (may_break own opened children (Touch u) offence) (list_any (λ m. may_break own opened children m offence) (map Touch uses)) h) [
      | inl one ↦ let q = here-behind prefix opened children own (Touch u) offence reaches one in (q.0, ([], touch_steps k uses, Touch u, refl, q.1))
      | inr more ↦
          let q = touch-stands (λ i. prefix i ++ touch_steps k (u ∷ [])) opened children own k uses offence (reaches-touched prefix opened children k (u ∷ []) reaches) more in (
            q.0,
            stands-behind (prefix q.0) (touch_steps k (u ∷ [])) (λ p. p ≡ touch_steps k uses) (λ p. p ≡ touch_steps k (u ∷ uses)) own k offence
                (λ p is. ap (λ p. At k (Touch u) ∷ p) is) q.1,
          )
    ]

-- ---- what is met stands on a path, or in a task

abbrev pub Found : (I : Type 0) → (I → List Step) → (List Step → Type 0) → (ℕ → Offence → Type 0) → Declared → ℕ → Offence → Type 0
Found I prefix Path Tasks own place offence = ((i : I) × Stands (prefix i) Path own place offence) ⊎ Tasks place offence

abbrev OneFound : (I : Type 0) → (I → List Step) → ℕ → S → Declared → ℕ → Offence → Type 0
OneFound I prefix k x own place offence = Found I prefix (PassesOne k x) (InTasksOfOne k x) own place offence

own_touch-found : {I : Type 0} (prefix : I → List Step) (opened : Openings) (children : Children) (own : Declared) (k : ℕ) (x : S) (place : ℕ) (offence : Offence)
    → Reaches I prefix opened children → (Whole : List Step → Type 0) → ((p : List Step) → p ≡ touch_steps k (touches x) → Whole p)
    → place ≡ k → list_any (λ m. may_break own opened children m offence) (map Touch (touches x)) ≡ true
    → (i : I) × Stands (prefix i) Whole own place offence
own_touch-found prefix opened children own k x place offence reaches Whole whole here h =
    let q = touch-stands prefix opened children own k (touches x) offence reaches h in (
      q.0,
      subst (λ n. Stands (prefix q.0) Whole own n offence) (sym here)
          (q.1.0, q.1.1, q.1.2, whole (q.1.0 ++ At k q.1.2 ∷ q.1.1) q.1.3, q.1.4),
    )

ends-are : (d : List Use) (b : Body) (k place : ℕ) (offence : Offence) → place ≡ k → ends_with_children (Task d b) offence ≡ true → InTasksOfOne k (Task d b) place offence
ends-are d b k place NotDeclared here h = cc
ends-are d b k place ChildBeyond here h = cc
ends-are d b k place ReductionMisuse here h = cc
ends-are d b k place ConflictsWithChild here h = cc
ends-are d b k place EndsWithChildren here h = let p = behind-to (k + 1) b nobody listed-nobody anyone h in inl (here, refl, (p.0, p.1, there_someone (unawaited_uses p.0) (sym (left-is nobody p.0 anyone) ∙ p.2)))

-- behind nothing it stands on the path itself
stands-on_path : (k : ℕ) (b : Body) (own : Declared) (place : ℕ) (offence : Offence) → Stands [] (Passes k b) own place offence → OnPath k b own place offence
stands-on_path k b own place offence (before, later, mark, way, h) =
    (before, later, mark, way, sym (may_break-breaks own (is_open before) (unawaited_uses before) mark offence) ∙ h)

reaches-nothing : Reaches (Unit {0}) (λ (i : Unit {0}). []) nothing_open nobody
reaches-nothing = record { groups = λ i o c. refl; unawaited = λ test h. (tt, h); listed = listed-nobody; someone = tt }

mutual
  found_one : {I : Type 0} (prefix : I → List Step) (own : Declared) (opened : Openings) (children : Children) (k : ℕ) (x : S) (place : ℕ) (offence : Offence)
      → Reaches I prefix opened children → MeetsOne own opened children k x place offence → OneFound I prefix k x own place offence
  found_one prefix own opened children k (Set c e) place offence reaches (inl (here, h)) =
      inl (own_touch-found prefix opened children own k (Set c e) place offence reaches (PassesOne k (Set c e)) (λ p is. is) here (or_false _ h))
  found_one prefix own opened children k (Set c e) place offence reaches (inr h) = absurd h
  found_one prefix own opened children k (Fold o c e) place offence reaches (inl (here, h)) =
      inl (own_touch-found prefix opened children own k (Fold o c e) place offence reaches (PassesOne k (Fold o c e)) (λ p is. is) here (or_false _ h))
  found_one prefix own opened children k (Fold o c e) place offence reaches (inr h) = absurd h
  found_one prefix own opened children k (If e a b) place offence reaches (inl (here, h)) =
      let way = some_path (k + 1) a in
      let q = own_touch-found prefix opened children own k (If e a b) place offence reaches (λ p. p ≡ touch_steps k (touches (If e a b))) (λ p is. is) here (or_false _ h) in
      inl (
        q.0,
        stands-before (prefix q.0) way.0 (λ p. p ≡ touch_steps k (touches (If e a b))) (PassesOne k (If e a b)) own place offence
            (λ p is. (way.0, ap (λ p. p ++ way.0) is, inl way.1)) q.1,
      )
  found_one {I} prefix own opened children k (If e a b) place offence reaches (inr (inl h)) =
      elim (found (λ i. prefix i ++ touch_steps k (touches (If e a b))) own opened children (k + 1) a place offence
      (reaches-touched prefix opened children k (touches (If e a b)) reaches) h) [
        | inl q ↦ inl (
          q.0,
          stands-behind (prefix q.0) (touch_steps k (touches (If e a b))) (Passes (k + 1) a) (PassesOne k (If e a b)) own place offence
              (λ p way. (p, refl, inl way)) q.1,
        )
        | inr t ↦ inr (inl t)
      ]
  found_one {I} prefix own opened children k (If e a b) place offence reaches (inr (inr h)) =
      elim (found (λ i. prefix i ++ touch_steps k (touches (If e a b))) own opened children (k + 1 + size a) b place offence
      (reaches-touched prefix opened children k (touches (If e a b)) reaches) h) [
        | inl q ↦ inl (
          q.0,
          stands-behind (prefix q.0) (touch_steps k (touches (If e a b))) (Passes (k + 1 + size a) b) (PassesOne k (If e a b)) own place offence
              (λ p way. (p, refl, inr way)) q.1,
        )
        | inr t ↦ inr (inr t)
      ]
  found_one prefix own opened children k (Task d b) place offence reaches (inl (here, h)) =
      elim (or_true (may_break own opened children (Create d) offence || false) (ends_with_children (Task d b) offence) h) [
        | inl one ↦
            let q = here-behind prefix opened children own (Create d) offence reaches (or_false _ one) in
            inl (q.0, subst (λ n. Stands (prefix q.0) (PassesOne k (Task d b)) own n offence) (sym here) ([], [], Create d, refl, q.1))
        | inr ends ↦ inr (ends-are d b k place offence here ends)
      ]
  found_one prefix own opened children k (Task d b) place offence reaches (inr h) =
      elim (found (λ (i : Unit {0}). []) (Some d) nothing_open nobody (k + 1) b place offence reaches-nothing h) [
        | inl q ↦ inr (inr (inl (stands-on_path (k + 1) b (Some d) place offence q.1)))
        | inr t ↦ inr (inr (inr t))
      ]
  found_one prefix own opened children k (Wait w) place offence reaches (inl (here, h)) = cc
  found_one prefix own opened children k (Wait w) place offence reaches (inr h) = absurd h
  found_one prefix own opened children k (Group o cs b) place offence reaches (inl (here, h)) =
      let way = some_path (k + 1) b in
      let q = here-behind prefix opened children own (Enter o cs) offence reaches (or_false _ (or_false _ h)) in
      inl (
        q.0,
        subst (λ n. Stands (prefix q.0) (PassesOne k (Group o cs b)) own n offence) (sym here)
            ([], way.0 ++ At k Leave ∷ [], Enter o cs, (way.0, refl, way.1), q.1),
      )
  found_one prefix own opened children k (Group o cs b) place offence reaches (inr h) =
      elim (found (λ i. prefix i ++ At k (Enter o cs) ∷ []) own (with_group opened o cs) children (k + 1) b place offence
      (reaches-entered prefix opened children k o cs reaches) h) [
        | inl q ↦ inl (
          q.0,
          stands-behind (prefix q.0) (At k (Enter o cs) ∷ []) (λ p. (inside : List Step) × (p ≡ inside ++ At k Leave ∷ []) × Passes (k + 1) b inside) (PassesOne k (Group o cs b)) own place offence
              (λ p way. (way.0, ap (λ p. At k (Enter o cs) ∷ p) way.1, way.2))
              (stands-before (prefix q.0 ++ At k (Enter o cs) ∷ []) (At k Leave ∷ []) (Passes (k + 1) b)
              (λ p. (inside : List Step) × (p ≡ inside ++ At k Leave ∷ []) × Passes (k + 1) b inside) own place offence (λ p way. (p, refl, way)) q.1),
        )
        | inr t ↦ inr t
      ]

  pub found : {I : Type 0} (prefix : I → List Step) (own : Declared) (opened : Openings) (children : Children) (k : ℕ) (b : Body) (place : ℕ) (offence : Offence)
      → Reaches I prefix opened children → Meets own opened children k b place offence → Found I prefix (Passes k b) (InTasks k b) own place offence
  found prefix own opened children k End place offence reaches h = absurd h
  found prefix own opened children k (Next x rest) place offence reaches (inl h) =
      let way = some_path (k + size_one x) rest in
      elim (found_one prefix own opened children k x place offence reaches h) [
        | inl q ↦ inl (
          q.0,
          stands-before (prefix q.0) way.0 (PassesOne k x) (Passes k (Next x rest)) own place offence
              (λ p one. (p, way.0, refl, one, way.1)) q.1,
        )
        | inr t ↦ inr (inl t)
      ]
  found {I} prefix own opened children k (Next x rest) place offence reaches (inr h) =
      elim (found (further prefix k x) own opened (behind_one children x) (k + size_one x) rest place offence
      (reaches-passed prefix opened children k x reaches) h) [
        | inl q ↦ inl (
          q.0.0,
          stands-behind (prefix q.0.0) q.0.1.0 (Passes (k + size_one x) rest) (Passes k (Next x rest)) own place offence
              (λ p way. (q.0.1.0, p, refl, q.0.1.1, way)) q.1,
        )
        | inr t ↦ inr (inr t)
      ]

-- ---- the walk tells the first offence

first-weaker : (A B : ℕ → Offence → Type 0) (f : Option (ℕ × Offence)) → ((p : ℕ) (c : Offence) → A p c → B p c) → ((p : ℕ) (c : Offence) → B p c → A p c)
    → IsFirstOf A f → IsFirstOf B f
first-weaker A B None to from h = λ p c b. h p c (from p c b)
first-weaker A B (Some f) to from h = (to f.0 f.1 h.0, λ p c b. h.1 p c (from p c b))

offends-met : (b : Body) (place : ℕ) (offence : Offence) → Offends b place offence → Meets None nothing_open nobody 1 b place offence
offends-met b place offence (inl h) = meets-on_path 1 b None place offence h
offends-met b place offence (inr h) = meets-in_tasks None nothing_open nobody 1 b place offence h

met-offends : (b : Body) (place : ℕ) (offence : Offence) → Meets None nothing_open nobody 1 b place offence → Offends b place offence
met-offends b place offence h =
    elim (found (λ (i : Unit {0}). []) None nothing_open nobody 1 b place offence reaches-nothing h) [
      | inl q ↦ inl (stands-on_path 1 b None place offence q.1)
      | inr t ↦ inr t
    ]

pub first-is_first : (b : Body) → IsFirstOf (Offends b) (first None nothing_open nobody 1 b)
first-is_first b =
    first-weaker (Meets None nothing_open nobody 1 b) (Offends b) (first None nothing_open nobody 1 b) (met-offends b) (offends-met b)
    (meets-first None nothing_open nobody 1 b)
