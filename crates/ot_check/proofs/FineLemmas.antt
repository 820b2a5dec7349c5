-- Bodies in which nothing is an offence, statement by statement.
use Rattle.std.proofs.Common.{◌≡◌, ℕ, ◌+◌, Bool, true, false, not, ◌&&◌, List, refl, sym, ap, ◌∙◌, true≢false}
use Rattle.std.specs.Prelude.{if◌then◌else◌, Option, Some, None}
use Rattle.std.specs.List.{list_any}
use Rattle.std.specs.Option.{option_or}
use Rattle.ot_model.specs.Tree.{S, Set, Fold, If, Task, Wait, Group, Body, End, Next, append, size, size_one}
use Rattle.ot_model.specs.declared.stmt.Use.{Use}
use Rattle.ot_check.specs.Offences.{Declared, Openings, awaits, Offends, IsFirstOf}
use Rattle.ot_check.specs.Discipline.{OffendsNowhere, Children, nobody, nothing_open, behind_one, behind, through, through_one, with_group, may_break, is_offence, ends_with_children, marks, IsClean, IsFineInside, IsFine, AreFewer}
use Rattle.ot_check.specs.walk.Walk.{leading, offence_at, first, first_inside, first_one}
use Rattle.ot_check.specs.declared.fault.Offence.{Offence}
use Rattle.ot_check.specs.declared.fault.Offence.TheVariants.{NotDeclared, ChildBeyond, ReductionMisuse, ConflictsWithChild, EndsWithChildren}
use Rattle.ot_check.proofs.PathsTold.{may_break-more}
use Rattle.ot_check.proofs.PathsMet.{first-is_first}
use Rattle.ot_check.proofs.Bits.{or_more, any-more, or_false_left, or_false_right, false_or}

-- ---- where the walk tells nothing

none_left : {A : Type 0} (f g : Option A) → option_or f g ≡ None → f ≡ None
none_left None g h = refl
none_left (Some x) g h = h

none_right : {A : Type 0} (f g : Option A) → option_or f g ≡ None → g ≡ None
none_right None g h = h
none_right (Some x) g h = cc

none_placed : (k : ℕ) (o : Option Offence) → offence_at k o ≡ None → o ≡ None
none_placed k None h = refl
none_placed k (Some x) h = cc

none_of_five : (a b c d e : Bool) (p q r s t : Offence)
    → (if a then Some p else if b then Some q else if c then Some r else if d then Some s else if e then Some t else None) ≡ None
    → (a ≡ false) × (b ≡ false) × (c ≡ false) × (d ≡ false) × (e ≡ false)
none_of_five true b c d e p q r s t h = cc
none_of_five false true c d e p q r s t h = cc
none_of_five false false true d e p q r s t h = cc
none_of_five false false false true e p q r s t h = cc
none_of_five false false false false true p q r s t h = cc
none_of_five false false false false false p q r s t h = (refl, refl, refl, refl, refl)

none_leads : (holds : Offence → Bool) → leading holds ≡ None → (offence : Offence) → holds offence ≡ false
none_leads holds h offence = pick offence (none_of_five _ _ _ _ _ NotDeclared ChildBeyond ReductionMisuse ConflictsWithChild EndsWithChildren h)
  where
    pick : (offence : Offence)
        → (holds NotDeclared ≡ false) × (holds ChildBeyond ≡ false) × (holds ReductionMisuse ≡ false) × (holds ConflictsWithChild ≡ false) × (holds EndsWithChildren ≡ false)
        → holds offence ≡ false
    pick NotDeclared g = g.0
    pick ChildBeyond g = g.1
    pick ReductionMisuse g = g.2
    pick ConflictsWithChild g = g.3
    pick EndsWithChildren g = g.4

mutual
  fine_inside-first : (own : Declared) (opened : Openings) (children : Children) (k : ℕ) (x : S) → first_inside own opened children k x ≡ None
      → IsFineInside own opened children x
  fine_inside-first own opened children k (Set c e) h = tt
  fine_inside-first own opened children k (Fold o c e) h = tt
  fine_inside-first own opened children k (If e a b) h = (
    fine-first own opened children (k + 1) a (none_left _ (first own opened children (k + 1 + size a) b) h),
    fine-first own opened children (k + 1 + size a) b (none_right (first own opened children (k + 1) a) _ h),
  )
  fine_inside-first own opened children k (Task d b) h = fine-first (Some d) nothing_open nobody (k + 1) b h
  fine_inside-first own opened children k (Wait w) h = tt
  fine_inside-first own opened children k (Group o cs b) h = fine-first own (with_group opened o cs) children (k + 1) b h

  pub fine-first : (own : Declared) (opened : Openings) (children : Children) (k : ℕ) (b : Body) → first own opened children k b ≡ None
      → IsFine own opened children b
  fine-first own opened children k End h = tt
  fine-first own opened children k (Next x rest) h =
      let own_one = offence_at k (leading (is_offence own opened children x)) in
      let one = none_left (first_one own opened children k x) (first own opened (behind_one children x) (k + size_one x) rest) h in (
        none_leads (is_offence own opened children x) (none_placed k _ (none_left own_one (first_inside own opened children k x) one)),
        fine_inside-first own opened children k x (none_right own_one (first_inside own opened children k x) one),
        fine-first own opened (behind_one children x) (k + size_one x) rest (none_right (first_one own opened children k x) _ h),
      )

none_first : (Holds : ℕ → Offence → Type 0) (f : Option (ℕ × Offence)) → IsFirstOf Holds f → ((place : ℕ) (offence : Offence) → Holds place offence → ⊥) → f ≡ None
none_first Holds None h nowhere = refl
none_first Holds (Some f) h nowhere = absurd (nowhere f.0 f.1 h.0)

pub disciplined-fine : (b : Body) → OffendsNowhere b → IsFine None nothing_open nobody b
disciplined-fine b nowhere =
    fine-first None nothing_open nobody 1 b (none_first (Offends b) (first None nothing_open nobody 1 b) (first-is_first b) nowhere)

-- ---- fewer children do no harm

pub false_below : (p q : Bool) → (p ≡ true → q ≡ true) → q ≡ false → p ≡ false
false_below true q le h = absurd (true≢false (sym (le refl) ∙ h))
false_below false q le h = refl

any_below : {X : Type 0} (f g : X → Bool) (xs : List X) → ((x : X) → f x ≡ true → g x ≡ true) → list_any g xs ≡ false → list_any f xs ≡ false
any_below f g xs more h = false_below (list_any f xs) (list_any g xs) (any-more f g xs more) h

clean-fewer : (own : Declared) (opened : Openings) (few many : Children) → AreFewer few many → (x : S) → IsClean own opened many x → IsClean own opened few x
clean-fewer own opened few many le x h offence =
    let marked = list_any (λ m. may_break own opened many m offence) (marks x) in
    false_or (list_any (λ m. may_break own opened few m offence) (marks x)) (ends_with_children x offence)
    (any_below (λ m. may_break own opened few m offence) (λ m. may_break own opened many m offence) (marks x)
    (λ m. may_break-more own opened opened few many (λ o c. refl) le m offence)
    (or_false_left marked (ends_with_children x offence) (h offence)))
    (or_false_right marked (ends_with_children x offence) (h offence))

mutual
  pub behind_one-more : (few many : Children) → AreFewer few many → (x : S) → AreFewer (behind_one few x) (behind_one many x)
  behind_one-more few many le (Set c e) test h = le test h
  behind_one-more few many le (Fold o c e) test h = le test h
  behind_one-more few many le (If e a b) test h =
      or_more (behind few a test) (behind few b test) (behind many a test) (behind many b test)
      (behind-more few many le a test) (behind-more few many le b test) h
  behind_one-more few many le (Task d b) test h = or_more (few test) (test d) (many test) (test d) (le test) (λ g. g) h
  behind_one-more few many le (Wait w) test h = le (λ d. test d && not (awaits w d)) h
  behind_one-more few many le (Group o cs b) test h = le (λ d. test d && through d b) h

  pub behind-more : (few many : Children) → AreFewer few many → (b : Body) → AreFewer (behind few b) (behind many b)
  behind-more few many le End test h = le test h
  behind-more few many le (Next x rest) test h = behind-more (behind_one few x) (behind_one many x) (behind_one-more few many le x) rest test h

mutual
  fine_inside-fewer : (own : Declared) (opened : Openings) (few many : Children) → AreFewer few many → (x : S)
      → IsFineInside own opened many x → IsFineInside own opened few x
  fine_inside-fewer own opened few many le (Set c e) h = tt
  fine_inside-fewer own opened few many le (Fold o c e) h = tt
  fine_inside-fewer own opened few many le (If e a b) h = (fine-fewer own opened few many le a h.0, fine-fewer own opened few many le b h.1)
  fine_inside-fewer own opened few many le (Task d b) h = h
  fine_inside-fewer own opened few many le (Wait w) h = tt
  fine_inside-fewer own opened few many le (Group o cs b) h = fine-fewer own (with_group opened o cs) few many le b h

  pub fine-fewer : (own : Declared) (opened : Openings) (few many : Children) → AreFewer few many → (b : Body)
      → IsFine own opened many b → IsFine own opened few b
  fine-fewer own opened few many le End h = tt
  fine-fewer own opened few many le (Next x rest) h = (
    clean-fewer own opened few many le x h.0,
    fine_inside-fewer own opened few many le x h.1,
    fine-fewer own opened (behind_one few x) (behind_one many x) (behind_one-more few many le x) rest h.2,
  )

-- ---- one body, then the other

pub fine-append : (own : Declared) (opened : Openings) (children : Children) (a b : Body) → IsFine own opened children a
    → IsFine own opened (behind children a) b → IsFine own opened children (append a b)
fine-append own opened children End b h g = g
fine-append own opened children (Next x rest) b h g = (h.0, h.1, fine-append own opened (behind_one children x) rest b h.2 g)

and_assoc : (p q r : Bool) → (p && (q && r)) ≡ ((p && q) && r)
and_assoc true q r = refl
and_assoc false q r = refl

pub through-append : (d : List Use) (a b : Body) → through d (append a b) ≡ (through d a && through d b)
through-append d End b = refl
through-append d (Next x rest) b = ap (λ t. through_one d x && t) (through-append d rest b) ∙ and_assoc (through_one d x) (through d rest) (through d b)
