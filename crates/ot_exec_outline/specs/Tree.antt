-- Outlines: what a text does with cells and tasks, statement by statement, each with the number of its site. Loops are written
-- out. Values stand there where the language has them, and else the cells that are used.
use Rattle.std.specs.Prelude.{ℕ, ◌+◌, List, [], ◌∷◌, Option, Some, None}
use Rattle.std.specs.Option.{option_or}
use Rattle.ot_model.specs.Tree.{E, S, Set, Fold, If, Task, Wait, Group, Body, End, Next}
use Rattle.ot_model.specs.Tree as tree
use Rattle.ot_model.specs.declared.expr.Cell.{Cell}
use Rattle.ot_model.specs.declared.fold.Fold.{Fold as Operation}
use Rattle.ot_model.specs.declared.stmt.Use.{Use}

mutual
  -- A step, with the number of its site: a statement of the language, of an `if` with the number of its choice; what uses cells
  -- in a way that the language has no form for; or a branch of which nothing but its choice is known
  pub data OutlineStep : Type 0 where
    SetAt : ℕ → Cell → E → OutlineStep
    FoldAt : ℕ → Operation → Cell → E → OutlineStep
    TouchAt : ℕ → List Use → OutlineStep
    IfAt : ℕ → ℕ → E → Steps → Steps → OutlineStep
    ChooseAt : ℕ → ℕ → Steps → Steps → OutlineStep
    TaskAt : ℕ → List Use → Steps → OutlineStep
    WaitAt : ℕ → Option (List Use) → OutlineStep
    GroupAt : ℕ → Operation → List Cell → Steps → OutlineStep

  pub data Steps : Type 0 where
    Done : Steps
    Then : OutlineStep → Steps → Steps

abbrev pub steps_of : List OutlineStep → Steps
steps_of [] = Done
steps_of (x ∷ xs) = Then x (steps_of xs)

-- how many steps there are, those inside steps among them
abbrev mutual
  pub step_size : OutlineStep → ℕ
  step_size (SetAt k c e) = 1
  step_size (FoldAt k o c e) = 1
  step_size (TouchAt k us) = 1
  step_size (IfAt k n e a b) = 1 + steps_size a + steps_size b
  step_size (ChooseAt k n a b) = 1 + steps_size a + steps_size b
  step_size (TaskAt k d b) = 1 + steps_size b
  step_size (WaitAt k w) = 1
  step_size (GroupAt k o cs b) = 1 + steps_size b

  pub steps_size : Steps → ℕ
  steps_size Done = 0
  steps_size (Then x rest) = step_size x + steps_size rest

-- ---- the program

-- the site of the first step that the language has no form for
abbrev mutual
  pub no_form_one : OutlineStep → Option ℕ
  no_form_one (SetAt k c e) = None
  no_form_one (FoldAt k o c e) = None
  no_form_one (TouchAt k us) = Some k
  no_form_one (IfAt k n e a b) = option_or (no_form a) (no_form b)
  no_form_one (ChooseAt k n a b) = Some k
  no_form_one (TaskAt k d b) = no_form b
  no_form_one (WaitAt k w) = None
  no_form_one (GroupAt k o cs b) = no_form b

  pub no_form : Steps → Option ℕ
  no_form Done = None
  no_form (Then x rest) = option_or (no_form_one x) (no_form rest)

-- The statement of the language that a step is. What has no form there stands as a wait, and what is said of the whole means
-- nothing
abbrev mutual
  pub statement_of : OutlineStep → S
  statement_of (SetAt k c e) = Set c e
  statement_of (FoldAt k o c e) = Fold o c e
  statement_of (TouchAt k us) = Wait None
  statement_of (IfAt k n e a b) = If e (body_of_steps a) (body_of_steps b)
  statement_of (ChooseAt k n a b) = Wait None
  statement_of (TaskAt k d b) = Task d (body_of_steps b)
  statement_of (WaitAt k w) = Wait w
  statement_of (GroupAt k o cs b) = Group o cs (body_of_steps b)

  pub body_of_steps : Steps → Body
  body_of_steps Done = End
  body_of_steps (Then x rest) = Next (statement_of x) (body_of_steps rest)

-- ---- the outline of a program: sites are the statements' numbers, each `if` has a choice of its own, by its site

abbrev mutual
  pub outline_one : ℕ → S → OutlineStep
  outline_one k (Set c e) = SetAt k c e
  outline_one k (Fold o c e) = FoldAt k o c e
  outline_one k (If e a b) = IfAt k k e (outline (k + 1) a) (outline (k + 1 + tree.size a) b)
  outline_one k (Task d b) = TaskAt k d (outline (k + 1) b)
  outline_one k (Wait w) = WaitAt k w
  outline_one k (Group o cs b) = GroupAt k o cs (outline (k + 1) b)

  pub outline : ℕ → Body → Steps
  outline k End = Done
  outline k (Next x rest) = Then (outline_one k x) (outline (k + tree.size_one x) rest)
