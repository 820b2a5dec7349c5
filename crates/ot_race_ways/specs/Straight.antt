-- Straight bodies: without picks in their values, and without branches, but those whose values and conditions name no cell. The one
-- way through such a body does what its run does.
use Rattle.std.specs.Prelude.{ℕ, nat_lt, Bool, true, false, ◌&&◌, Option, Some, None}
use Rattle.ot_model.specs.Serial.{either}
use Rattle.ot_model.specs.Tree.{E, Literal, CellAt, Apply, PickFrom, S, Set, Fold, If, Task, Wait, Group, Body, End, Next}
use Rattle.ot_race_ways.specs.Known.{names_none, number_in_value}

-- whether a value reads the same cells whatever they hold: no pick is in it but one whose value names no cell, from a section of some
abbrev pub is_fixed : E → Bool
is_fixed (Literal n) = true
is_fixed (CellAt c) = true
is_fixed (Apply o a b) = is_fixed a && is_fixed b
is_fixed (PickFrom s e) = names_none e && nat_lt 0 s.len

-- whether an `if` is straight whose bodies are so, or aren't: the body that it takes is, where its condition is known
abbrev pub is_straight_if : Option ℕ → Bool → Bool → Bool
is_straight_if None one two = false
is_straight_if (Some n) one two = either n one two

-- whether a statement, a body is straight
abbrev mutual
  pub is_straight_one : S → Bool
  is_straight_one (Set c e) = is_fixed e
  is_straight_one (Fold o c e) = is_fixed e
  is_straight_one (If e a b) = is_straight_if (number_in_value e) (is_straight a) (is_straight b)
  is_straight_one (Task d b) = is_straight b
  is_straight_one (Wait w) = true
  is_straight_one (Group o cs b) = is_straight b

  pub is_straight : Body → Bool
  is_straight End = true
  is_straight (Next x rest) = is_straight_one x && is_straight rest
