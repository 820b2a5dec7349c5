-- Sets and folds as steps over a stack of numbers, by which they are made.
use Rattle.std.specs.Prelude.{ℕ, List, [], ◌∷◌, ◌++◌, length, nat_lt, if◌then◌else◌}
use Rattle.ot_model.specs.Tree.{E, Literal, CellAt, Apply, PickFrom, S, Set, Fold, Body, Next}
use Rattle.ot_model.specs.declared.expr.Cell.{Cell}
use Rattle.ot_model.specs.declared.expr.Section.{Section}
use Rattle.ot_model.specs.declared.expr.Op.{Op}
use Rattle.ot_model.specs.declared.fold.Fold.{Fold as Operation}
use Rattle.ot_parts.specs.declared.step.Step.{Step}
use Rattle.ot_parts.specs.declared.step.Step.TheVariants as v

-- what a step does, wherever its cell is looked for
pub data Deed : Type 0 where
  -- puts a number, or that of a cell, on the stack
  Push : ℕ → Deed
  Load : Cell → Deed
  -- puts the number of the cell of a section there which the number on top picks
  Choose : Section → Deed
  -- joins the two numbers on top, where the second operand, or the first one, is on top
  Join : Op → Deed
  JoinBack : Op → Deed
  -- takes the number on top, and writes it to a cell, or joins the cell with it
  Write : Cell → Deed
  WriteJoined : Operation → Cell → Deed

abbrev pub deed_of : Step → Deed
deed_of (v.Number n) = Push n
deed_of (v.Cell p c) = Load c
deed_of (v.Pick p s) = Choose s
deed_of (v.Op o) = Join o
deed_of (v.Swapped o) = JoinBack o
deed_of (v.Set p c) = Write c
deed_of (v.Fold o p c) = WriteJoined o c

-- one operand's deeds, then the other's, and then the operation: the longer operand comes first, so that a stack of 64 numbers is
-- enough for every value
abbrev pub both_deeds : Op → (one two : List Deed) → List Deed
both_deeds o one two = if nat_lt (length one) (length two) then (two ++ one) ++ JoinBack o ∷ [] else (one ++ two) ++ Join o ∷ []

-- a value
abbrev pub value_deeds : E → List Deed
value_deeds (Literal n) = Push n ∷ []
value_deeds (CellAt c) = Load c ∷ []
value_deeds (PickFrom s e) = value_deeds e ++ Choose s ∷ []
value_deeds (Apply o a b) = both_deeds o (value_deeds a) (value_deeds b)

-- a set or a fold; no other statement has deeds
abbrev pub assign_deeds : S → List Deed
assign_deeds (Set c e) = value_deeds e ++ Write c ∷ []
assign_deeds (Fold o c e) = value_deeds e ++ WriteJoined o c ∷ []
assign_deeds x = []

-- the sets and folds that come first
abbrev pub deeds_of : Body → List Deed
deeds_of (Next (Set c e) rest) = assign_deeds (Set c e) ++ deeds_of rest
deeds_of (Next (Fold o c e) rest) = assign_deeds (Fold o c e) ++ deeds_of rest
deeds_of b = []
