-- The offences of a body in one walk, which carries the children that may be unawaited.
use Rattle.std.specs.Prelude.{ℕ, ◌+◌, Bool, true, false, if◌then◌else◌, List, Option, Some, None}
use Rattle.std.specs.Option.{option_or}
use Rattle.ot_model.specs.Tree.{S, Set, Fold, If, Task, Wait, Group, Body, End, Next, size, size_one}
use Rattle.ot_check.specs.Offences.{Declared, Openings}
use Rattle.ot_check.specs.Discipline.{Children, anyone, nobody, behind, behind_one, nothing_open, with_group, is_offence}
use Rattle.ot_check.specs.declared.fault.Offence.{Offence}
use Rattle.ot_check.specs.declared.fault.Offence.TheVariants.{NotDeclared, ChildBeyond, ReductionMisuse, ConflictsWithChild, EndsWithChildren}

-- the first that holds, in the order in which they are told
abbrev pub leading : (Offence → Bool) → Option Offence
leading holds =
    if holds NotDeclared then Some NotDeclared
    else if holds ChildBeyond then Some ChildBeyond
    else if holds ReductionMisuse then Some ReductionMisuse
    else if holds ConflictsWithChild then Some ConflictsWithChild
    else if holds EndsWithChildren then Some EndsWithChildren
    else None

abbrev pub offence_at : ℕ → Option Offence → Option (ℕ × Offence)
offence_at k None = None
offence_at k (Some offence) = Some (k, offence)

-- the first offence in a statement's bodies, of a statement, of a body, whose place is k, with its place
abbrev mutual
  pub first_inside : Declared → Openings → Children → ℕ → S → Option (ℕ × Offence)
  first_inside own opened children k (Set c e) = None
  first_inside own opened children k (Fold o c e) = None
  first_inside own opened children k (If e a b) = option_or (first own opened children (k + 1) a) (first own opened children (k + 1 + size a) b)
  first_inside own opened children k (Task d b) = first (Some d) nothing_open nobody (k + 1) b
  first_inside own opened children k (Wait w) = None
  first_inside own opened children k (Group o cs b) = first own (with_group opened o cs) children (k + 1) b

  pub first : Declared → Openings → Children → ℕ → Body → Option (ℕ × Offence)
  first own opened children k End = None
  first own opened children k (Next x rest) =
      option_or (option_or (offence_at k (leading (is_offence own opened children x))) (first_inside own opened children k x))
      (first own opened (behind_one children x) (k + size_one x) rest)

-- what is told of a task whose body can end with a child unawaited, or can't
abbrev pub ending_offence : Bool → Option Offence
ending_offence true = Some EndsWithChildren
ending_offence false = None

abbrev pub ending : S → Option Offence
ending (Task d b) = ending_offence (behind nobody b anyone)
ending x = None

-- the first offence in a statement, its own marks aside
abbrev pub first_within : Declared → Openings → Children → ℕ → S → Option (ℕ × Offence)
first_within own opened children k x = option_or (offence_at k (ending x)) (first_inside own opened children k x)

abbrev pub first_one : Declared → Openings → Children → ℕ → S → Option (ℕ × Offence)
first_one own opened children k x = option_or (offence_at k (leading (is_offence own opened children x))) (first_inside own opened children k x)
