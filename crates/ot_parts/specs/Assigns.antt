-- The bodies that lists of sets and folds stand for.
use Rattle.std.specs.Prelude.{List, map, Option, Some, None, ◌≡◌}
use Rattle.ot_model.specs.Tree.{S, Set, Fold, Body, End, body_of, E}
use Rattle.ot_model.specs.View.{expr_of}
use Rattle.ot_parts.specs.declared.assign.Assign.{Assign}
use Rattle.ot_parts.specs.declared.assign.Assign.TheVariants as v
use Rattle.ot_model.specs.Cells.{mode_in}
use Rattle.ot_model.specs.declared.expr.Cell.{Cell}
use Rattle.ot_model.specs.declared.stmt.Use.{Use}
use Rattle.ot_parts.specs.Modes.{strongest, Declared, held_mode, piece_touches}

abbrev pub assign_of : Assign → S
assign_of (v.Set c e) = Set c (expr_of e)
assign_of (v.Fold o c e) = Fold o c (expr_of e)

abbrev pub assigns_of : List Assign → Body
assigns_of assigns = body_of (map assign_of assigns)

-- those of a list, where there is one
abbrev pub assigns_in : Option Body → Body
assigns_in None = End
assigns_in (Some list) = list

-- Runs of sets and folds, prepared: with the cells that they touch, and in which mode.

-- a run with no condition behind it
pub record Plain : Type 0 where
  pub assigns : Body
  pub uses : List Use

-- a run with the condition of an `if` behind it
pub record Asked : Type 0 where
  pub assigns : Body
  pub test : E
  pub uses : List Use

-- the uses are of the cells that these sets and folds and this condition touch and of no others, each in the strongest mode in
-- which it is touched
abbrev pub AreTouched : Body → Option E → List Use → Type 0
AreTouched assigns test uses = (c : Cell) → mode_in uses c ≡ strongest (piece_touches assigns test) c

-- the uses are of the same cells, each in the mode in which a piece of a body that declares this holds it
abbrev pub AreHeldBy : Declared → Body → Option E → List Use → Type 0
AreHeldBy own assigns test uses = (c : Cell) → mode_in uses c ≡ held_mode own (piece_touches assigns test) c
