-- Modes and uses, and what conflicts: the definition as it was before the second profile.
use Rattle.std.specs.Prelude.{ℕ, ◌+◌, List, [], ◌∷◌, Bool, true, false}
use Rattle.ot_model.specs.Tree.{E}
use Rattle.ot_model.specs.declared.expr.Cell.{Cell}
use Rattle.ot_model.specs.declared.expr.Section.{Section}

pub data Mode1 : Type 0 where
  Reads1 : Mode1
  Writes1 : Mode1
  Adds1 : Mode1

pub record Use1 : Type 0 where
  pub cell : Cell
  pub mode : Mode1

abbrev pub is_adds1 : Mode1 → Bool
is_adds1 Adds1 = true
is_adds1 _ = false

-- whether two modes are one
abbrev pub same_mode1 : Mode1 → Mode1 → Bool
same_mode1 Reads1 Reads1 = true
same_mode1 Writes1 Writes1 = true
same_mode1 Adds1 Adds1 = true
same_mode1 one two = false

-- whether two uses of one cell conflict: they do unless both read or both add
abbrev pub conflicts1 : Mode1 → Mode1 → Bool
conflicts1 Reads1 Reads1 = false
conflicts1 Adds1 Adds1 = false
conflicts1 one two = true

-- Statements, bodies and programs, and their counts: the definition as it was before the second profile, when `+` was the
-- only operation of reductions.

mutual
  -- a statement
  pub data S1 : Type 0 where
    Set1 : Cell → E → S1
    Add1 : Cell → E → S1
    If1 : E → Body1 → Body1 → S1
    Task1 : List Use1 → Body1 → S1
    Wait1 : S1
    Group1 : List Cell → Body1 → S1

  -- statements in their order
  pub data Body1 : Type 0 where
    End1 : Body1
    Next1 : S1 → Body1 → Body1

abbrev pub body_of1 : List S1 → Body1
body_of1 [] = End1
body_of1 (s ∷ ss) = Next1 s (body_of1 ss)

-- ---- how many statements and task statements a body has, those inside its statements among them

abbrev mutual
  pub size_one1 : S1 → ℕ
  size_one1 (Set1 c e) = 1
  size_one1 (Add1 c e) = 1
  size_one1 (If1 e a b) = 1 + size1 a + size1 b
  size_one1 (Task1 d b) = 1 + size1 b
  size_one1 Wait1 = 1
  size_one1 (Group1 cs b) = 1 + size1 b

  pub size1 : Body1 → ℕ
  size1 End1 = 0
  size1 (Next1 s rest) = size_one1 s + size1 rest

abbrev mutual
  pub tasks_in_one1 : S1 → ℕ
  tasks_in_one1 (Set1 c e) = 0
  tasks_in_one1 (Add1 c e) = 0
  tasks_in_one1 (If1 e a b) = tasks_in1 a + tasks_in1 b
  tasks_in_one1 (Task1 d b) = 1 + tasks_in1 b
  tasks_in_one1 Wait1 = 0
  tasks_in_one1 (Group1 cs b) = tasks_in1 b

  pub tasks_in1 : Body1 → ℕ
  tasks_in1 End1 = 0
  tasks_in1 (Next1 s rest) = tasks_in_one1 s + tasks_in1 rest

-- ---- programs

-- what it shows, its body, and how many statements and task statements it has
pub record Expanded1 : Type 0 where
  pub shows : List Section
  pub body : Body1
  pub statements : ℕ
  pub tasks : ℕ
