-- What a statement's own offences are, form by form.
use Rattle.std.proofs.Common.{◌≡◌, Bool, true, false, ◌||◌, List, [], ◌∷◌, ◌++◌, map, refl, sym, ap, ◌∙◌}
use Rattle.std.specs.List.{list_any}
use Rattle.std.proofs.lemmas.List.Folds.{list_any-append}
use Rattle.ot_model.specs.Tree.{E, S, Set, Fold, If, Task, Wait, Group, Body, cells_named}
use Rattle.ot_model.specs.declared.expr.Cell.{Cell}
use Rattle.ot_model.specs.declared.fold.Fold.{Fold as Operation}
use Rattle.ot_model.specs.declared.stmt.Mode.TheVariants.{Reads, Writes, Folds}
use Rattle.ot_model.specs.declared.stmt.Use.{Use}
use Rattle.ot_check.specs.Offences.{Mark, Touch, Create, Await, Enter, Leave, use_as, Declared, Openings, exceeds, misfits}
use Rattle.ot_check.specs.Discipline.{Children, may_break, marks, is_marked, is_offence, ends_with_children}
use Rattle.ot_check.specs.walk.Walk.{ending_offence, ending}
use Rattle.ot_check.specs.declared.fault.Offence.{Offence}
use Rattle.ot_check.specs.declared.fault.Offence.TheVariants.{NotDeclared, ChildBeyond, ReductionMisuse, ConflictsWithChild, EndsWithChildren}
use Rattle.ot_check.proofs.Bits.{or_none, any-map, any-same, none_any}

-- whether reading any of these cells is the offence
abbrev pub reading : Declared → Openings → Children → Offence → List Cell → Bool
reading own opened children offence cells = list_any (λ c. may_break own opened children (Touch (use_as Reads c)) offence) cells

touches-break : (own : Declared) (opened : Openings) (children : Children) (offence : Offence) (cells : List Cell) (more : List Use)
    → list_any (λ m. may_break own opened children m offence) (map Touch (map (use_as Reads) cells ++ more))
    ≡ (reading own opened children offence cells || list_any (λ u. may_break own opened children (Touch u) offence) more)
touches-break own opened children offence cells more =
    any-map (λ m. may_break own opened children m offence) Touch (map (use_as Reads) cells ++ more)
    ∙ list_any-append (λ u. may_break own opened children (Touch u) offence) (map (use_as Reads) cells) more
    ∙ ap (λ b. b || list_any (λ u. may_break own opened children (Touch u) offence) more) (any-map (λ u. may_break own opened children (Touch u) offence) (use_as Reads) cells)

ends-touch : (x : S) (offence : Offence) (b : Bool) → ends_with_children x offence ≡ false → (b || ends_with_children x offence) ≡ b
ends-touch x offence b h = ap (λ e. b || e) h ∙ or_none b

no_end_set : (c : Cell) (e : E) (offence : Offence) → ends_with_children (Set c e) offence ≡ false
no_end_set c e NotDeclared = refl
no_end_set c e ChildBeyond = refl
no_end_set c e ReductionMisuse = refl
no_end_set c e ConflictsWithChild = refl
no_end_set c e EndsWithChildren = refl

no_end_fold : (o : Operation) (c : Cell) (e : E) (offence : Offence) → ends_with_children (Fold o c e) offence ≡ false
no_end_fold o c e NotDeclared = refl
no_end_fold o c e ChildBeyond = refl
no_end_fold o c e ReductionMisuse = refl
no_end_fold o c e ConflictsWithChild = refl
no_end_fold o c e EndsWithChildren = refl

no_end_if : (e : E) (a b : Body) (offence : Offence) → ends_with_children (If e a b) offence ≡ false
no_end_if e a b NotDeclared = refl
no_end_if e a b ChildBeyond = refl
no_end_if e a b ReductionMisuse = refl
no_end_if e a b ConflictsWithChild = refl
no_end_if e a b EndsWithChildren = refl

no_end_group : (o : Operation) (cs : List Cell) (b : Body) (offence : Offence) → ends_with_children (Group o cs b) offence ≡ false
no_end_group o cs b NotDeclared = refl
no_end_group o cs b ChildBeyond = refl
no_end_group o cs b ReductionMisuse = refl
no_end_group o cs b ConflictsWithChild = refl
no_end_group o cs b EndsWithChildren = refl

-- ---- what its marks are

pub is_marked-Set : (own : Declared) (opened : Openings) (children : Children) (c : Cell) (e : E) (offence : Offence)
    → is_marked own opened children (Set c e) offence
    ≡ (reading own opened children offence (cells_named e) || may_break own opened children (Touch (use_as Writes c)) offence)
is_marked-Set own opened children c e offence =
    touches-break own opened children offence (cells_named e) (use_as Writes c ∷ [])
    ∙ ap (λ b. reading own opened children offence (cells_named e) || b) (or_none (may_break own opened children (Touch (use_as Writes c)) offence))

pub is_marked-Fold : (own : Declared) (opened : Openings) (children : Children) (o : Operation) (c : Cell) (e : E) (offence : Offence)
    → is_marked own opened children (Fold o c e) offence
    ≡ (reading own opened children offence (cells_named e) || may_break own opened children (Touch (use_as (Folds o) c)) offence)
is_marked-Fold own opened children o c e offence =
    touches-break own opened children offence (cells_named e) (use_as (Folds o) c ∷ [])
    ∙ ap (λ b. reading own opened children offence (cells_named e) || b) (or_none (may_break own opened children (Touch (use_as (Folds o) c)) offence))

pub is_marked-If : (own : Declared) (opened : Openings) (children : Children) (e : E) (a b : Body) (offence : Offence)
    → is_marked own opened children (If e a b) offence ≡ reading own opened children offence (cells_named e)
is_marked-If own opened children e a b offence =
    any-map (λ m. may_break own opened children m offence) Touch (map (use_as Reads) (cells_named e))
    ∙ any-map (λ u. may_break own opened children (Touch u) offence) (use_as Reads) (cells_named e)

pub is_marked-ChildBeyond : (own : Declared) (opened : Openings) (children : Children) (d : List Use) (b : Body)
    → is_marked own opened children (Task d b) ChildBeyond ≡ list_any (exceeds own) d
is_marked-ChildBeyond own opened children d b = or_none (list_any (exceeds own) d)

pub is_marked-ReductionMisuse : (own : Declared) (opened : Openings) (children : Children) (d : List Use) (b : Body)
    → is_marked own opened children (Task d b) ReductionMisuse ≡ list_any (misfits own opened) d
is_marked-ReductionMisuse own opened children d b = or_none (list_any (misfits own opened) d)

-- no mark is that a body ends
unending : (own : Declared) (opened : Openings) (children : Children) (m : Mark) → may_break own opened children m EndsWithChildren ≡ false
unending own opened children (Touch u) = refl
unending own opened children (Create d) = refl
unending own opened children (Await w) = refl
unending own opened children (Enter o cs) = refl
unending own opened children Leave = refl

pub marked-unending : (own : Declared) (opened : Openings) (children : Children) (x : S) → is_marked own opened children x EndsWithChildren ≡ false
marked-unending own opened children x =
    any-same _ (λ m. false) (marks x) (unending own opened children) ∙ sym (none_any (marks x))

-- nothing else is
pub no_ends : (x : S) → (ends_with_children x NotDeclared ≡ false) × (ends_with_children x ChildBeyond ≡ false)
    × (ends_with_children x ReductionMisuse ≡ false) × (ends_with_children x ConflictsWithChild ≡ false)
no_ends (Set c e) = (refl, refl, refl, refl)
no_ends (Fold o c e) = (refl, refl, refl, refl)
no_ends (If e a b) = (refl, refl, refl, refl)
no_ends (Task d b) = (refl, refl, refl, refl)
no_ends (Wait w) = (refl, refl, refl, refl)
no_ends (Group o cs b) = (refl, refl, refl, refl)

pub ended-is : (x : S) → ending_offence (ends_with_children x EndsWithChildren) ≡ ending x
ended-is (Set c e) = refl
ended-is (Fold o c e) = refl
ended-is (If e a b) = refl
ended-is (Task d b) = refl
ended-is (Wait w) = refl
ended-is (Group o cs b) = refl

-- ---- what it is

pub is_offence-Set : (own : Declared) (opened : Openings) (children : Children) (c : Cell) (e : E) (offence : Offence)
    → is_offence own opened children (Set c e) offence
    ≡ (reading own opened children offence (cells_named e) || may_break own opened children (Touch (use_as Writes c)) offence)
is_offence-Set own opened children c e offence =
    ends-touch (Set c e) offence _ (no_end_set c e offence) ∙ is_marked-Set own opened children c e offence

pub is_offence-Fold : (own : Declared) (opened : Openings) (children : Children) (o : Operation) (c : Cell) (e : E) (offence : Offence)
    → is_offence own opened children (Fold o c e) offence
    ≡ (reading own opened children offence (cells_named e) || may_break own opened children (Touch (use_as (Folds o) c)) offence)
is_offence-Fold own opened children o c e offence =
    ends-touch (Fold o c e) offence _ (no_end_fold o c e offence) ∙ is_marked-Fold own opened children o c e offence

pub is_offence-If : (own : Declared) (opened : Openings) (children : Children) (e : E) (a b : Body) (offence : Offence)
    → is_offence own opened children (If e a b) offence ≡ reading own opened children offence (cells_named e)
is_offence-If own opened children e a b offence =
    ends-touch (If e a b) offence _ (no_end_if e a b offence) ∙ is_marked-If own opened children e a b offence

pub is_offence-ChildBeyond : (own : Declared) (opened : Openings) (children : Children) (d : List Use) (b : Body)
    → is_offence own opened children (Task d b) ChildBeyond ≡ list_any (exceeds own) d
is_offence-ChildBeyond own opened children d b = or_none (list_any (exceeds own) d || false) ∙ is_marked-ChildBeyond own opened children d b

pub is_offence-ReductionMisuse : (own : Declared) (opened : Openings) (children : Children) (d : List Use) (b : Body)
    → is_offence own opened children (Task d b) ReductionMisuse ≡ list_any (misfits own opened) d
is_offence-ReductionMisuse own opened children d b = or_none (list_any (misfits own opened) d || false) ∙ is_marked-ReductionMisuse own opened children d b

pub is_offence-Group : (own : Declared) (opened : Openings) (children : Children) (o : Operation) (cs : List Cell) (b : Body) (offence : Offence)
    → is_offence own opened children (Group o cs b) offence ≡ may_break own opened children (Enter o cs) offence
is_offence-Group own opened children o cs b offence =
    ends-touch (Group o cs b) offence _ (no_end_group o cs b offence) ∙ or_none (may_break own opened children (Enter o cs) offence)

pub either_met : (b a d : Bool) → b ≡ a → b ≡ true → b ≡ (a || d)
either_met b a d is met = met ∙ ap (λ c. c || d) (sym met ∙ is)

pub either_other : (b r a d : Bool) → b ≡ a → b ≡ false → r ≡ d → r ≡ (a || d)
either_other b r a d is unmet other = other ∙ ap (λ c. c || d) (sym unmet ∙ is)
