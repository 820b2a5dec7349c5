-- Discipline, told statement by statement: the children that may be unawaited and the groups that are open at a place, and
-- what is no offence there.
use Rattle.std.specs.Prelude.{◌≡◌, ℕ, Bool, true, false, not, ◌&&◌, ◌||◌, List, [], ◌∷◌, Some, None, map}
use Rattle.std.specs.List.{list_any}
use Rattle.ot_model.specs.Programs.{Expanded}
use Rattle.ot_model.specs.Tree.{S, Set, Fold, If, Task, Wait, Group, Body, End, Next}
use Rattle.ot_model.specs.Cells.{same_fold}
use Rattle.ot_model.specs.declared.expr.Cell.{Cell}
use Rattle.ot_model.specs.declared.fold.Fold.{Fold as Operation}
use Rattle.ot_model.specs.declared.stmt.Mode.TheVariants.{Writes}
use Rattle.ot_model.specs.declared.stmt.Use.{Use}
use Rattle.ot_check.specs.Offences.{Mark, Touch, Create, Enter, touches, use_as, Declared, Openings, Offends, awaits, breaks, clashes, has_cell}
use Rattle.ot_check.specs.declared.fault.Offence.{Offence}
use Rattle.ot_check.specs.declared.fault.Offence.TheVariants.{ConflictsWithChild, EndsWithChildren}

-- ---- programs that can't race

-- no statement of the body is an offence on any path
abbrev pub OffendsNowhere : Body → Type 0
OffendsNowhere body = (place : ℕ) (offence : Offence) → Offends body place offence → ⊥

abbrev pub IsDisciplined : Expanded → Type 0
IsDisciplined program = OffendsNowhere program.body

-- ---- children

-- children, told by what is true of some of them
abbrev pub Children : Type 0
Children = (List Use → Bool) → Bool

-- true of each child
abbrev pub anyone : List Use → Bool
anyone child = true

-- no child at all
abbrev pub nobody : Children
nobody test = false

-- whether some path has no wait that awaits a child with this declaration
abbrev mutual
  pub through_one : List Use → S → Bool
  through_one d (Set c e) = true
  through_one d (Fold o c e) = true
  through_one d (If e a b) = through d a || through d b
  through_one d (Task uses b) = true
  through_one d (Wait w) = not (awaits w d)
  through_one d (Group o cs b) = through d b

  pub through : List Use → Body → Bool
  through d End = true
  through d (Next x rest) = through_one d x && through d rest

-- the children that may be unawaited behind a statement, behind a body
abbrev mutual
  pub behind_one : Children → S → Children
  behind_one children (Set c e) test = children test
  behind_one children (Fold o c e) test = children test
  behind_one children (If e a b) test = behind children a test || behind children b test
  behind_one children (Task d b) test = children test || test d
  behind_one children (Wait w) test = children (λ d. test d && not (awaits w d))
  behind_one children (Group o cs b) test = children (λ d. test d && through d b)

  pub behind : Children → Body → Children
  behind children End test = children test
  behind children (Next x rest) test = behind (behind_one children x) rest test

-- ---- groups

-- no group at all
abbrev pub nothing_open : Openings
nothing_open o c = false

-- these groups, and one by this operation that names these cells
abbrev pub with_group : Openings → Operation → List Cell → Openings
with_group opened by cells o c = opened o c || (same_fold by o && has_cell cells c)

-- ---- offences

-- whether a mark is this offence where these children may be unawaited: a conflict with some of them, or what is one
-- whatever children there are
abbrev pub may_break : Declared → Openings → Children → Mark → Offence → Bool
may_break own opened children (Touch u) ConflictsWithChild = children (clashes u)
may_break own opened children (Enter o cs) ConflictsWithChild = list_any (λ c. children (clashes (use_as Writes c))) cs
may_break own opened children mark offence = breaks own opened [] mark offence

-- the marks of a statement itself
abbrev pub marks : S → List Mark
marks (Task d b) = Create d ∷ []
marks (Group o cs b) = Enter o cs ∷ []
marks x = map Touch (touches x)

-- whether a task's body can end with a child unawaited
abbrev pub ends_with_children : S → Offence → Bool
ends_with_children (Task d b) EndsWithChildren = behind nobody b anyone
ends_with_children x offence = false

-- whether a mark of the statement is this offence
abbrev pub is_marked : Declared → Openings → Children → S → Offence → Bool
is_marked own opened children x offence = list_any (λ m. may_break own opened children m offence) (marks x)

-- whether the statement itself is this offence
abbrev pub is_offence : Declared → Openings → Children → S → Offence → Bool
is_offence own opened children x offence = is_marked own opened children x offence || ends_with_children x offence

-- ---- no offence

-- the statement itself is no offence
abbrev pub IsClean : Declared → Openings → Children → S → Type 0
IsClean own opened children x = (offence : Offence) → is_offence own opened children x offence ≡ false

-- nothing in the statement's bodies, nothing in the body, is an offence
abbrev mutual
  pub IsFineInside : Declared → Openings → Children → S → Type 0
  IsFineInside own opened children (Set c e) = Unit {0}
  IsFineInside own opened children (Fold o c e) = Unit {0}
  IsFineInside own opened children (If e a b) = IsFine own opened children a × IsFine own opened children b
  IsFineInside own opened children (Task d b) = IsFine (Some d) nothing_open nobody b
  IsFineInside own opened children (Wait w) = Unit {0}
  IsFineInside own opened children (Group o cs b) = IsFine own (with_group opened o cs) children b

  pub IsFine : Declared → Openings → Children → Body → Type 0
  IsFine own opened children End = Unit {0}
  IsFine own opened children (Next x rest) =
      IsClean own opened children x × IsFineInside own opened children x × IsFine own opened (behind_one children x) rest

-- a touch that is no offence
abbrev pub IsHarmless : Declared → Openings → Children → Use → Type 0
IsHarmless own opened children u = (offence : Offence) → may_break own opened children (Touch u) offence ≡ false

-- sets and folds alone
abbrev pub AreAssigns : Body → Type 0
AreAssigns End = Unit {0}
AreAssigns (Next (Set c e) rest) = AreAssigns rest
AreAssigns (Next (Fold o c e) rest) = AreAssigns rest
AreAssigns (Next x rest) = ⊥

-- each child of the one is among the other
abbrev pub AreFewer : Children → Children → Type 0
AreFewer fewer children = (test : List Use → Bool) → fewer test ≡ true → children test ≡ true

-- a body that offends nowhere is fine from no children and no open group
abbrev pub DisciplinedIsFine : Type 0
DisciplinedIsFine = (body : Body) → OffendsNowhere body → IsFine None nothing_open nobody body
