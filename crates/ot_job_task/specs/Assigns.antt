-- Sets and folds, and when lent copies let them be made.
use Rattle.std.specs.Prelude.{◌≡◌, List, Option, IfSome}
use Rattle.ot_model.specs.Tree.{E, Set, Fold, Body, Next, HasAll}
use Rattle.ot_owner.specs.Lending.{first_at, value_at, MayChange}
use Rattle.ot_model.specs.declared.expr.Cell.{Cell}
use Rattle.ot_owner.specs.declared.lent.LentCell.{LentCell}
pub use Rattle.ot_parts.specs.Assigns.{assign_of, assigns_of, assigns_in}
use Rattle.ot_model.specs.Cells.{mode_in}
use Rattle.ot_model.specs.declared.stmt.Use.{Use}
use Rattle.ot_job_task.specs.Regions.{Region}
use Rattle.ot_job_task.specs.Pieces.{leading, after_parts, test_of, awake}
use Rattle.ot_job_task.specs.Touched.{piece_touches}
pub use Rattle.ot_parts.specs.Modes.{held_as, mode_held, stronger, with_mode, mode_noted, held_mode, PicksFit, AssignsFit}

-- each cell that is read is lent, and each that is set or folded into may be changed
abbrev pub CanAssign : Body → List LentCell → Type 0
CanAssign (Next (Set c e) rest) lent = HasAll (value_at lent) e × MayChange lent c × CanAssign rest lent
CanAssign (Next (Fold o c e) rest) lent = HasAll (value_at lent) e × MayChange lent c × CanAssign rest lent
CanAssign b lent = Unit {0}

-- the assigns and the condition may be run on these copies, which have the values that they were lent with
pub record CanRun (assigns : Body) (test : Option E) (lent : List LentCell) : Type 0 where
  pub assignable : CanAssign assigns lent
  pub readable : IfSome test (λ e. HasAll (value_at lent) e)
  pub fresh : (c : Cell) → value_at lent c ≡ first_at lent c

-- In which mode a piece holds each cell that it touches, touch by touch.

-- these are the modes in which a region's next piece holds its cells
abbrev pub AreHeld : Region → List Use → Type 0
AreHeld r d = (c : Cell) → mode_in d c ≡ held_mode r.own (piece_touches (leading (awake r).rest) (test_of (after_parts (awake r).rest))) c
