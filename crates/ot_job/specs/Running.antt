-- What holds of a region with a piece out.
use Rattle.std.specs.Prelude.{◌≡◌, false, None}
use Rattle.ot_model.specs.Tree.{End}
use Rattle.ot_model.specs.Cells.{AreInOrder, mode_in}
use Rattle.ot_model.specs.declared.expr.Cell.{Cell}
use Rattle.ot_check.specs.Discipline.{AreAssigns}
use Rattle.ot_job_task.specs.Regions.{Region, Run}
use Rattle.ot_job_task.specs.Pieces.{leading, test_of}
use Rattle.ot_job_task.specs.Assigns.{held_mode}
use Rattle.ot_job_task.specs.Touched.{piece_touches}

pub record RunsWell (r : Region) (run : Run) : Type 0 where
  pub modes : (c : Cell) → mode_in run.lease.uses c ≡ held_mode r.own (piece_touches run.assigns (test_of r.rest)) c
  pub ordered : AreInOrder run.lease.uses
  pub assigns : AreAssigns run.assigns
  pub stops : leading r.rest ≡ End
  pub calm : r.waiting ≡ None
  pub alive : r.ended ≡ false
