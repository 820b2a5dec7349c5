-- The live job that a job's fields stand for.
use Rattle.ot_model.specs.Programs.{expanded_of}
use Rattle.ot_job.specs.Dealings.{Live}
use Rattle.ot_job.specs.declared.job.Job.TheInside.{Inside}
use Rattle.std.specs.Prelude.{option_map}
use Rattle.ot_model.specs.View.{expr_of}
use Rattle.ot_job.specs.Taken.{Came}
use Rattle.ot_job.specs.declared.piece.Done.TheInside as done

abbrev pub live_of : Inside → Live
live_of j = record {
  program = expanded_of j.spec.checked.program;
  before = j.spec.before;
  cells = j.cells;
  owned = j.owners.owned;
  regions = j.tasks;
  counts = j.counts;
  failing = j.failing;
}

-- What the fields of a piece that comes back stand for.

abbrev pub came_of : done.Inside → Came
came_of d = record { task = d.task; assigns = d.assigns; test = option_map expr_of d.condition; lent = d.lent; answer = d.answer }
