-- What a run creates and passes, apart from memory.
use Rattle.std.specs.Prelude.{ℕ, List, Option}
use Rattle.ot_model.specs.declared.expr.Cell.{Cell}
use Rattle.ot_model.specs.declared.fold.Fold.{Fold as Operation}
use Rattle.ot_model.specs.declared.stmt.Use.{Use}

-- a task of a run: its number in the order of creation, from 1, the place of its statement, from 1, and what it declares
pub record Created : Type 0 where
  pub number : ℕ
  pub place : ℕ
  pub uses : List Use

-- the children of one body, in the order of their creation, and the number of the task whose body it is: 0 for the program's
pub record Kin : Type 0 where
  pub parent : ℕ
  pub children : List Created

-- what a run passes: the creation of a child by the task of a number, a wait of the task of a number with what it declares, if
-- it does, and the children that it awaits, the beginning and the end of a group
pub data Passed : Type 0 where
  Creates : ℕ → Created → Passed
  Awaits : ℕ → Option (List Use) → List Created → Passed
  Enters : Operation → List Cell → Passed
  Leaves : Passed
