-- What the walk tells, from part to whole.
use Rattle.std.proofs.Common.{◌≡◌, ℕ, ◌||◌, Bool, true, false, refl, sym, ap, subst, ◌∙◌}
use Rattle.std.specs.Prelude.{Option, Some, None}
use Rattle.std.specs.Option.{option_or}
use Rattle.ot_model.specs.Tree.{S, Body}
use Rattle.ot_check.specs.Offences.{Declared, Openings, Offends, IsFirstOf}
use Rattle.ot_check.specs.Discipline.{Children, nobody, nothing_open, is_marked, is_offence, ends_with_children}
use Rattle.ot_check.specs.walk.Walk.{first, first_one, first_within, first_inside, leading, ending_offence, ending, offence_at}
use Rattle.ot_check.specs.declared.fault.Offence.{Offence}
use Rattle.ot_check.specs.declared.fault.Offence.TheVariants.{NotDeclared, ChildBeyond, ReductionMisuse, ConflictsWithChild, EndsWithChildren}
use Rattle.ot_check.proofs.Bits.{or_none}
use Rattle.ot_check.proofs.OffenceLemmas.{ended-is, marked-unending, no_ends}
use Rattle.ot_check.proofs.PathsMet.{first-is_first}

pub or-assoc : {A : Type 0} (a b c : Option A) → option_or (option_or a b) c ≡ option_or a (option_or b c)
or-assoc None b c = refl
or-assoc (Some x) b c = refl

pub or-none : {A : Type 0} (a : Option A) → option_or a None ≡ a
or-none None = refl
or-none (Some x) = refl

-- ---- a statement's own offences in two parts

-- that a body ends with children is told behind the others
leading-parts : (k : ℕ) (holds own : Offence → Bool) (n b r c e : Bool) → own NotDeclared ≡ n → own ChildBeyond ≡ b → own ReductionMisuse ≡ r
    → own ConflictsWithChild ≡ c → own EndsWithChildren ≡ false → holds NotDeclared ≡ n → holds ChildBeyond ≡ b → holds ReductionMisuse ≡ r
    → holds ConflictsWithChild ≡ c → holds EndsWithChildren ≡ e → offence_at k (leading holds) ≡ option_or (offence_at k (leading own)) (offence_at k (ending_offence e))
leading-parts k holds own true b r c e on ob or oc oe hn hb hr hc he = rw (hn, on) refl
leading-parts k holds own false true r c e on ob or oc oe hn hb hr hc he = rw (hn, on, hb, ob) refl
leading-parts k holds own false false true c e on ob or oc oe hn hb hr hc he = rw (hn, on, hb, ob, hr, or) refl
leading-parts k holds own false false false true e on ob or oc oe hn hb hr hc he = rw (hn, on, hb, ob, hr, or, hc, oc) refl
leading-parts k holds own false false false false true on ob or oc oe hn hb hr hc he = rw (hn, on, hb, ob, hr, or, hc, oc, he, oe) refl
leading-parts k holds own false false false false false on ob or oc oe hn hb hr hc he = rw (hn, on, hb, ob, hr, or, hc, oc, he, oe) refl

pub leading-none : (holds : Offence → Bool) → holds NotDeclared ≡ false → holds ChildBeyond ≡ false → holds ReductionMisuse ≡ false
    → holds ConflictsWithChild ≡ false → holds EndsWithChildren ≡ false → leading holds ≡ None
leading-none holds hn hb hr hc he = rw (hn, hb, hr, hc, he) refl

unmarked : (m e : Bool) → e ≡ false → (m || e) ≡ m
unmarked m e is = ap (λ e. m || e) is ∙ or_none m

pub first_one-parts : (own : Declared) (opened : Openings) (children : Children) (k : ℕ) (x : S)
    → first_one own opened children k x ≡ option_or (offence_at k (leading (is_marked own opened children x))) (first_within own opened children k x)
first_one-parts own opened children k x =
    let marked = is_marked own opened children x in
    let none = no_ends x in
    let unending = marked-unending own opened children x in
    ap (λ o. option_or o (first_inside own opened children k x))
    (leading-parts k (is_offence own opened children x) marked (marked NotDeclared) (marked ChildBeyond) (marked ReductionMisuse) (marked ConflictsWithChild)
    (ends_with_children x EndsWithChildren) refl refl refl refl unending
    (unmarked (marked NotDeclared) (ends_with_children x NotDeclared) none.0)
    (unmarked (marked ChildBeyond) (ends_with_children x ChildBeyond) none.1)
    (unmarked (marked ReductionMisuse) (ends_with_children x ReductionMisuse) none.2)
    (unmarked (marked ConflictsWithChild) (ends_with_children x ConflictsWithChild) none.3)
    (ap (λ b. b || ends_with_children x EndsWithChildren) unending)
    ∙ ap (λ o. option_or (offence_at k (leading marked)) (offence_at k o)) (ended-is x))
    ∙ or-assoc (offence_at k (leading marked)) (offence_at k (ending x)) (first_inside own opened children k x)

-- ---- the whole

-- what the walk tells is the first offence
pub tells-first : (b : Body) (told : Option (ℕ × Offence)) → told ≡ first None nothing_open nobody 1 b → IsFirstOf (Offends b) told
tells-first b told is = subst (IsFirstOf (Offends b)) (sym is) (first-is_first b)
