-- What stands at a place, as the walk goes on.
use Rattle.std.proofs.Common.{◌≡◌, ◌==◌, ℕ, ◌+◌, ◌<◌, ◌≤◌, ◌++◌, ◌&&◌, ◌||◌, Bool, true, false, not, List, [], ◌∷◌, length, refl, sym, ap, subst, ◌∙◌, inl, inr, arith, append_assoc, append-nil}
use Rattle.std.specs.Prelude.{Option, Some, slice_get}
use Rattle.std.proofs.lemmas.Bool.{cases_lt}
use Rattle.std.proofs.lemmas.Option.{slice_get_within}
use Rattle.ot_model.specs.declared.expr.Cell.{Cell}
use Rattle.ot_model.specs.Tree.{Wait}
use Rattle.ot_model.specs.Cells.{same_fold}
use Rattle.ot_model.specs.declared.fold.Fold.{Fold as Operation}
use Rattle.ot_model.specs.declared.stmt.Use.{Use}
use Rattle.ot_check.specs.Offences.{Declared, Openings, awaits, clashes, has_cell}
use Rattle.ot_check.specs.Discipline.{Children, anyone, behind_one, nobody, nothing_open, with_group}
use Rattle.ot_sets.specs.Sets.{has}
use Rattle.ot_check.specs.walk.States.{is_open, is_met_by, AreOf, IsBegun, Stands, IsBehind, Leads, Represents, among, one_more, of_both, with_children, with_others}
use Rattle.ot_sets.specs.declared.numbers.Numbers.{Numbers}
use Rattle.ot_check.specs.declared.standing.Region.{Region}
use Rattle.ot_check.specs.declared.standing.Standing.{Standing}
use Rattle.ot_check.specs.declared.tasks.Tasks.{Tasks}
use Rattle.ot_check.proofs.Bits.{and_one, or_none, or_yes}
use Rattle.ot_check.proofs.SameLemmas.{eq_itself, eq_apart}
use Rattle.ot_check.proofs.SetLemmas.{slice_get-more, some-append, some-both, some-earlier, some-none, some-same, some-there}
use Rattle.ot_check.proofs.TaskLemmas.{longer_by_one, met-told}

-- ---- where nothing is passed

-- a body's beginning
pub stands-first : (own : Declared) (decls : List (List Use)) (new : Standing) (tasks : Tasks) → IsBegun own new.region → new.tasks ≡ tasks → AreOf decls tasks
    → Represents own nothing_open nobody decls new
stands-first own decls new tasks begun same are = record {
  declares = begun.declares;
  grouped = begun.closed;
  those = λ test. sym (some-none (λ k d. has new.region.unawaited k && test d) 0 decls (λ i d. ap (λ b. b && test d) (begun.none (0 + i))));
  passed = λ k l. begun.none k;
  known = subst (AreOf decls) (sym same) are;
}

-- a group's cells
pub stands-grouped : (own : Declared) (opened : Openings) (children : Children) (decls : List (List Use)) (by : Operation) (cells : List Cell) (old new : Standing)
    → Represents own opened children decls old → new.region.own ≡ old.region.own → new.region.unawaited ≡ old.region.unawaited → new.tasks ≡ old.tasks
    → ((o : Operation) (c : Cell) → is_open new.region.opened o c ≡ with_group (is_open old.region.opened) by cells o c)
    → Represents own (with_group opened by cells) children decls new
stands-grouped own opened children decls by cells old new h declares same are entered = record {
  declares = declares ∙ h.declares;
  grouped = λ o c. entered o c ∙ ap (λ b. b || (same_fold by o && has_cell cells c)) (h.grouped o c);
  those = λ test. h.those test ∙ ap (λ n. among n decls test) (sym same);
  passed = λ k l. ap (λ n. has n k) same ∙ h.passed k l;
  known = subst (AreOf decls) (sym are) h.known;
}

-- ---- what the children are asked

pub stands-clash : (own : Declared) (opened : Openings) (children : Children) (decls : List (List Use)) (region : Region) (tasks : Tasks)
    → Stands own opened children decls region tasks → (u : Use) → is_met_by region.unawaited tasks.users u ≡ children (clashes u)
stands-clash own opened children decls region tasks h u = met-told tasks.users decls h.known.told region.unawaited u ∙ sym (h.those (clashes u))

stands-none : (own : Declared) (opened : Openings) (children : Children) (decls : List (List Use)) (region : Region) (tasks : Tasks)
    → Stands own opened children decls region tasks → ((k : ℕ) → has region.unawaited k ≡ false) → children anyone ≡ false
stands-none own opened children decls region tasks h none =
    h.those anyone ∙ some-none (λ k d. has region.unawaited k && true) 0 decls (λ i d. ap (λ b. b && true) (none (0 + i)))

stands-some : (own : Declared) (opened : Openings) (children : Children) (decls : List (List Use)) (region : Region) (tasks : Tasks)
    → Stands own opened children decls region tasks → (k : ℕ) × (has region.unawaited k ≡ true) → children anyone ≡ true
stands-some own opened children decls region tasks h (k, is) =
    h.those anyone ∙ elim (cases_lt k (length decls)) [
      | inl below ↦
          let at : 0 + k ≡ k = omega arith in
          some-there (λ k d. has region.unawaited k && true) 0 decls k below (λ d. ap (λ n. has region.unawaited n && true) at ∙ ap (λ b. b && true) is)
      | inr above ↦ let no : false ≡ true = sym (h.passed k above) ∙ is in cc
    ]

pub stands-told : (own : Declared) (opened : Openings) (children : Children) (decls : List (List Use)) (region : Region) (tasks : Tasks)
    → Stands own opened children decls region tasks → (empty : Bool) → (empty ≡ true → (k : ℕ) → has region.unawaited k ≡ false)
    → (empty ≡ false → (k : ℕ) × (has region.unawaited k ≡ true)) → not empty ≡ children anyone
stands-told own opened children decls region tasks h true none some = sym (stands-none own opened children decls region tasks h (none refl))
stands-told own opened children decls region tasks h false none some = sym (stands-some own opened children decls region tasks h (some refl))

-- ---- going on

-- the same in another standing
stands-as : (own : Declared) (opened : Openings) (children : Children) (decls : List (List Use)) (old region : Region) (before tasks : Tasks)
    → Stands own opened children decls old before → region.own ≡ old.own → region.opened ≡ old.opened → region.unawaited ≡ old.unawaited → tasks ≡ before
    → Stands own opened children decls region tasks
stands-as own opened children decls old region before tasks h declares shut same is = record {
  declares = declares ∙ h.declares;
  grouped = λ o c. ap (λ opened. is_open opened o c) shut ∙ h.grouped o c;
  those = λ test. h.those test ∙ ap (λ n. among n decls test) (sym same);
  passed = λ k l. ap (λ n. has n k) same ∙ h.passed k l;
  known = subst (AreOf decls) (sym is) h.known;
}

-- the same children once later tasks have been passed
stands-later : (own : Declared) (opened : Openings) (children : Children) (decls later : List (List Use)) (old region : Region) (before tasks : Tasks)
    → Stands own opened children decls old before → AreOf (decls ++ later) tasks → region.own ≡ own
    → ((o : Operation) (c : Cell) → is_open region.opened o c ≡ opened o c) → ((k : ℕ) → has region.unawaited k ≡ has old.unawaited k)
    → Stands own opened children (decls ++ later) region tasks
stands-later own opened children decls later old region before tasks h are declares grouped same =
    let none : (k : ℕ) → length decls ≤ k → has region.unawaited k ≡ false = λ k l. same k ∙ h.passed k l in record {
      declares = declares;
      grouped = grouped;
      those = λ test.
          h.those test
          ∙ some-same _ (λ k d. has region.unawaited k && test d) 0 decls (λ i d is. ap (λ b. b && test d) (sym (same (0 + i))))
          ∙ sym (some-earlier (λ k d. has region.unawaited k && test d) decls later (λ i d. ap (λ b. b && test d) (none (length decls + i) (omega arith))));
      passed = λ k l. none k (omega (arith, l, longer decls later));
      known = are;
    }
  where
    longer : (xs ys : List (List Use)) → length xs ≤ length (xs ++ ys)
    longer [] ys = omega arith
    longer (x ∷ xs) ys = let l = longer xs ys in omega (arith, l)

kept_bits : (o k t : Bool) → (o && (t && k)) ≡ ((o && k) && t)
kept_bits false k t = refl
kept_bits true true true = refl
kept_bits true true false = refl
kept_bits true false true = refl
kept_bits true false false = refl

-- those of the children that are to be kept
stands-kept : (own : Declared) (opened : Openings) (children : Children) (decls : List (List Use)) (region : Region) (kept : Numbers) (tasks : Tasks)
    → (keep : List Use → Bool) → Stands own opened children decls region tasks
    → ((k : ℕ) (d : List Use) → slice_get decls k ≡ Some d → has kept k ≡ (has region.unawaited k && keep d)) → ((k : ℕ) → length decls ≤ k → has kept k ≡ false)
    → Stands own opened (λ test. children (λ d. test d && keep d)) decls (with_children region kept) tasks
stands-kept own opened children decls region kept tasks keep h stays passed = record {
  declares = h.declares;
  grouped = h.grouped;
  those = λ test.
      h.those (λ d. test d && keep d)
      ∙ some-same _ (λ k d. has kept k && test d) 0 decls (λ i d is.
      let at : 0 + i ≡ i = omega arith in
      kept_bits (has region.unawaited (0 + i)) (keep d) (test d)
      ∙ ap (λ b. b && test d) (ap (λ n. has region.unawaited n && keep d) at ∙ sym (stays i d is) ∙ ap (has kept) (sym at)));
  passed = passed;
  known = h.known;
}

both_bits : (a b t : Bool) → ((a && t) || (b && t)) ≡ ((b || a) && t)
both_bits true true true = refl
both_bits true true false = refl
both_bits true false true = refl
both_bits true false false = refl
both_bits false true true = refl
both_bits false true false = refl
both_bits false false t = refl

both_false : (a b : Bool) → a ≡ false → b ≡ false → (a || b) ≡ false
both_false true b h g = cc
both_false false b h g = g

-- the children of two ways
stands-joined : (own : Declared) (opened : Openings) (children others : Children) (decls : List (List Use)) (region : Region) (one both : Numbers) (tasks : Tasks)
    → Stands own opened children decls (with_children region one) tasks → Stands own opened others decls region tasks
    → ((k : ℕ) → has both k ≡ (has region.unawaited k || has one k)) → Stands own opened (of_both children others) decls (with_children region both) tasks
stands-joined own opened children others decls region one both tasks g h joined = record {
  declares = h.declares;
  grouped = h.grouped;
  those = λ test.
      ap (λ b. b || others test) (g.those test) ∙ ap (λ b. among one decls test || b) (h.those test)
      ∙ sym (some-both (λ k d. has one k && test d) (λ k d. has region.unawaited k && test d) 0 decls)
      ∙ some-same _ (λ k d. has both k && test d) 0 decls (λ i d is.
      both_bits (has one (0 + i)) (has region.unawaited (0 + i)) (test d) ∙ ap (λ b. b && test d) (sym (joined (0 + i))));
  passed = λ k l. joined k ∙ both_false (has region.unawaited k) (has one k) (h.passed k l) (g.passed k l);
  known = h.known;
}

-- ---- what stands behind

-- no task more
pub behind-here : (own : Declared) (opened : Openings) (children : Children) (stay : ℕ → List Use → Bool) (decls : List (List Use)) (new : Standing)
    → Represents own opened children decls new → ((k : ℕ) (d : List Use) → slice_get decls k ≡ Some d → has new.region.unawaited k ≡ stay k d)
    → IsBehind own opened children stay decls new
behind-here own opened children stay decls new h stays = record {
  later = [];
  stands = subst (λ decls. Stands own opened children decls new.region new.tasks) (sym (append-nil decls)) h;
  stays = stays;
}

pub and_bits : (o k l : Bool) → ((o && k) && l) ≡ (o && (k && l))
and_bits true k l = refl
and_bits false k l = refl

-- one after the other
pub behind-then : (own : Declared) (opened : Openings) (children others : Children) (was : ℕ → Bool) (keep too : List Use → Bool) (decls : List (List Use)) (mid new : Standing)
    → (first : IsBehind own opened children (λ k d. was k && keep d) decls mid)
    → IsBehind own opened others (λ k d. has mid.region.unawaited k && too d) (decls ++ first.later) new
    → IsBehind own opened others (λ k d. was k && (keep d && too d)) decls new
behind-then own opened children others was keep too decls mid new first second = record {
  later = first.later ++ second.later;
  stands = subst (λ decls. Stands own opened others decls new.region new.tasks) (append_assoc decls first.later second.later) second.stands;
  stays = λ k d is.
      second.stays k d (slice_get-more decls first.later k d is) ∙ ap (λ b. b && too d) (first.stays k d is) ∙ and_bits (was k) (keep d) (too d);
}

-- the children as told otherwise
pub behind-same : (own : Declared) (opened : Openings) (children others : Children) (was : ℕ → Bool) (keep too : List Use → Bool) (decls : List (List Use)) (new : Standing)
    → ((test : List Use → Bool) → children test ≡ others test) → ((d : List Use) → keep d ≡ too d)
    → IsBehind own opened children (λ k d. was k && keep d) decls new → IsBehind own opened others (λ k d. was k && too d) decls new
behind-same own opened children others was keep too decls new same kept h = record {
  later = h.later;
  stands = record {
    declares = h.stands.declares;
    grouped = h.stands.grouped;
    those = λ test. sym (same test) ∙ h.stands.those test;
    passed = h.stands.passed;
    known = h.stands.known;
  };
  stays = λ k d is. h.stays k d is ∙ ap (λ b. was k && b) (kept d);
}

-- one child more
module _ (own : Declared) (opened : Openings) (children : Children) (decls : List (List Use)) (uses : List Use) (region : Region) (old : Tasks) (new : Standing)
    (h : Stands own opened children decls region old) (declares : new.region.own ≡ region.own) (shut : new.region.opened ≡ region.opened)
    (inserted : (k : ℕ) → has new.region.unawaited k ≡ (has region.unawaited k || (k == old.passed))) (known : AreOf (decls ++ uses ∷ []) new.tasks) where
  abbrev more : Numbers
  more = new.region.unawaited

  before : (k : ℕ) → k < length decls → has more k ≡ has region.unawaited k
  before k l =
      inserted k ∙ ap (λ b. has region.unawaited k || b) (eq_apart k old.passed (λ e. absurd (omega (arith, e, l, h.known.counted)))) ∙ or_none (has region.unawaited k)

  it : has more (0 + length decls) ≡ true
  it =
      let at : 0 + length decls ≡ old.passed = omega (arith, h.known.counted) in
      inserted (0 + length decls) ∙ ap (λ b. has region.unawaited (0 + length decls) || b) (ap (λ n. n == old.passed) at ∙ eq_itself old.passed)
      ∙ or_yes (has region.unawaited (0 + length decls))

  pub behind-child : IsBehind own opened (one_more children uses) (λ k d. has region.unawaited k) decls new
  behind-child = record {
    later = uses ∷ [];
    stands = record {
      declares = declares ∙ h.declares;
      grouped = λ o c. ap (λ opened. is_open opened o c) shut ∙ h.grouped o c;
      those = λ test.
          ap (λ b. b || test uses) (h.those test ∙ some-same _ (λ k d. has more k && test d) 0 decls (λ i d is.
          let l = slice_get_within decls i d is in ap (λ b. b && test d) (sym (before (0 + i) (omega (arith, l))))))
          ∙ ap (λ b. among more decls test || b) (sym (or_none (has more (0 + length decls) && test uses) ∙ ap (λ b. b && test uses) it))
          ∙ sym (some-append (λ k d. has more k && test d) 0 decls (uses ∷ []));
      passed = λ k l.
          let long = longer_by_one decls uses in
          inserted k ∙ both_false (has region.unawaited k) (k == old.passed) (h.passed k (omega (arith, l, long)))
          (eq_apart k old.passed (λ e. absurd (omega (arith, e, l, long, h.known.counted))));
      known = known;
    };
    stays = λ k d is. before k (slice_get_within decls k d is);
  }

-- ---- a whole statement

-- no change
pub leads-none : (old : Standing) → Leads old old (λ children. children) (λ d. true)
leads-none old own opened children decls h =
    behind-here own opened children (λ k d. has old.region.unawaited k && true) decls old h (λ k d is. sym (and_one (has old.region.unawaited k)))

ways_bits : (o a b : Bool) → ((o && b) || (o && a)) ≡ (o && (a || b))
ways_bits true true true = refl
ways_bits true true false = refl
ways_bits true false true = refl
ways_bits true false false = refl
ways_bits false a b = refl

-- a wait, which takes out whom it awaits
pub behind-wait : (own : Declared) (opened : Openings) (children : Children) (decls : List (List Use)) (old : Standing) (w : Option (List Use)) (left : Numbers)
    → Represents own opened children decls old
    → ((k : ℕ) (d : List Use) → slice_get decls k ≡ Some d → has left k ≡ (has old.region.unawaited k && not (awaits w d)))
    → ((k : ℕ) → length decls ≤ k → has left k ≡ false)
    → IsBehind own opened (behind_one children (Wait w)) (λ k d. has old.region.unawaited k && not (awaits w d)) decls (with_others old left)
behind-wait own opened children decls old w left h stays passed =
    behind-here own opened (behind_one children (Wait w)) (λ k d. has old.region.unawaited k && not (awaits w d)) decls (with_others old left)
    (stands-kept own opened children decls old.region left old.tasks (λ d. not (awaits w d)) h stays passed) stays

-- the second of two ways begins with the children from before
pub begun-again : (own : Declared) (opened : Openings) (children one : Children) (stay : ℕ → List Use → Bool) (decls : List (List Use)) (old mid begun : Standing) (before : Numbers)
    → Represents own opened children decls old → (first : IsBehind own opened one stay decls mid)
    → ((k : ℕ) → has before k ≡ has old.region.unawaited k) → begun ≡ with_others mid before → Represents own opened children (decls ++ first.later) begun
begun-again own opened children one stay decls old mid begun before h first same begins =
    subst (Represents own opened children (decls ++ first.later)) (sym begins)
    (stands-later own opened children decls first.later old.region (with_children mid.region before) old.tasks mid.tasks h first.stands.known
    first.stands.declares first.stands.grouped same)

-- two ways
pub behind-if : (own : Declared) (opened : Openings) (children one two : Children) (a b : List Use → Bool) (decls : List (List Use)) (old mid begun late new : Standing)
    (before way : Numbers) → Represents own opened children decls old → (first : IsBehind own opened one (λ k d. has old.region.unawaited k && a d) decls mid)
    → ((k : ℕ) → has before k ≡ has old.region.unawaited k) → begun ≡ with_others mid before
    → ((decls : List (List Use)) → Represents own opened children decls begun → IsBehind own opened two (λ k d. has begun.region.unawaited k && b d) decls late)
    → way ≡ mid.region.unawaited → new.region.own ≡ late.region.own → new.region.opened ≡ late.region.opened
    → ((k : ℕ) → has new.region.unawaited k ≡ (has late.region.unawaited k || has way k)) → new.tasks ≡ late.tasks
    → IsBehind own opened (of_both one two) (λ k d. has old.region.unawaited k && (a d || b d)) decls new
behind-if own opened children one two a b decls old mid begun late new before way h first same begins second is declares shut both tasks =
    let other = second (decls ++ first.later)
    (begun-again own opened children one (λ k d. has old.region.unawaited k && a d) decls old mid begun before h first same begins) in
    let one_stands : Stands own opened one ((decls ++ first.later) ++ other.later) (with_children late.region way) late.tasks =
    stands-later own opened one (decls ++ first.later) other.later mid.region (with_children late.region way) mid.tasks late.tasks first.stands other.stands.known
    other.stands.declares other.stands.grouped (λ k. ap (λ n. has n k) is) in
    let joined = stands-joined own opened one two ((decls ++ first.later) ++ other.later) late.region way new.region.unawaited late.tasks one_stands other.stands both in record {
      later = first.later ++ other.later;
      stands =
          subst (λ decls. Stands own opened (of_both one two) decls new.region new.tasks) (append_assoc decls first.later other.later)
          (stands-as own opened (of_both one two) ((decls ++ first.later) ++ other.later) (with_children late.region new.region.unawaited) new.region late.tasks new.tasks
          joined declares shut refl tasks);
      stays = λ k d at.
          both k
          ∙ ap (λ b. b || has way k) (other.stays k d (slice_get-more decls first.later k d at)
          ∙ ap (λ n. n && b d) (ap (λ s. has s.region.unawaited k) begins ∙ same k))
          ∙ ap (λ n. (has old.region.unawaited k && b d) || n) (ap (λ n. has n k) is ∙ first.stays k d at)
          ∙ ways_bits (has old.region.unawaited k) (a d) (b d);
    }

-- a task, whose body has children of its own
pub behind-task : (own inner : Declared) (opened closed : Openings) (children others : Children) (stay : ℕ → List Use → Bool) (uses : List Use) (decls : List (List Use)) (old inside new : Standing)
    (outer : Region) → Represents own opened children decls old → (body : IsBehind inner closed others stay decls inside) → outer ≡ old.region
    → ((decls : List (List Use)) → Stands own opened children decls outer inside.tasks → IsBehind own opened (one_more children uses) (λ k d. has outer.unawaited k) decls new)
    → IsBehind own opened (one_more children uses) (λ k d. has old.region.unawaited k && true) decls new
behind-task own inner opened closed children others stay uses decls old inside new outer h body is ends =
    let ended = ends (decls ++ body.later)
    (stands-later own opened children decls body.later old.region outer old.tasks inside.tasks h body.stands.known
    (ap (λ r. r.own) is ∙ h.declares) (λ o c. ap (λ r. is_open r.opened o c) is ∙ h.grouped o c) (λ k. ap (λ r. has r.unawaited k) is)) in record {
      later = body.later ++ ended.later;
      stands = subst (λ decls. Stands own opened (one_more children uses) decls new.region new.tasks) (append_assoc decls body.later ended.later) ended.stands;
      stays = λ k d at.
          ended.stays k d (slice_get-more decls body.later k d at) ∙ ap (λ r. has r.unawaited k) is ∙ sym (and_one (has old.region.unawaited k));
    }

-- a group, behind which those of later numbers are gone
pub behind-group : (own : Declared) (opened grouped : Openings) (children others : Children) (keep : List Use → Bool) (decls : List (List Use)) (old inside new : Standing)
    (number : ℕ) → number ≡ old.tasks.passed → Represents own opened children decls old
    → (body : IsBehind own grouped others (λ k d. has old.region.unawaited k && keep d) decls inside)
    → new.region.own ≡ inside.region.own → ((o : Operation) (c : Cell) → is_open new.region.opened o c ≡ is_open old.region.opened o c)
    → ((k : ℕ) → k < number → has new.region.unawaited k ≡ has inside.region.unawaited k) → ((k : ℕ) → number ≤ k → has new.region.unawaited k ≡ false)
    → new.tasks ≡ inside.tasks
    → IsBehind own opened (λ test. children (λ d. test d && keep d)) (λ k d. has old.region.unawaited k && keep d) decls new
behind-group own opened grouped children others keep decls old inside new number is h body declares shut below rest tasks =
    let stays : (k : ℕ) (d : List Use) → slice_get decls k ≡ Some d → has new.region.unawaited k ≡ (has old.region.unawaited k && keep d) =
    λ k d at. let l = slice_get_within decls k d at in below k (omega (arith, l, is, h.known.counted)) ∙ body.stays k d at in record {
      later = body.later;
      stands =
          stands-later own opened (λ test. children (λ d. test d && keep d)) decls body.later (with_children old.region new.region.unawaited) new.region old.tasks new.tasks
          (stands-kept own opened children decls old.region new.region.unawaited old.tasks keep h stays (λ k l. rest k (omega (arith, l, is, h.known.counted))))
          (subst (AreOf (decls ++ body.later)) (sym tasks) body.stands.known)
          (declares ∙ body.stands.declares) (λ o c. shut o c ∙ h.grouped o c) (λ k. refl);
      stays = stays;
    }
