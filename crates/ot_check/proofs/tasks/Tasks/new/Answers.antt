use Rattle.std.proofs.Common.{ap, ◌∙◌, map}
use Rattle.ot_model.specs.Programs.{arrays_of}
use Rattle.ot_check.specs.walk.Rows.{widths}
use Rattle.ot_check.proofs.GridLemmas.{widths-filled}
use Rattle.ot_check.proofs.TaskLemmas.{told-first}
use Rattle.ot_check.proofs.tasks.Tasks.new.Goals as goal

pub returns-clause-none : goal.returns-clause-none
returns-clause-none c = told-first (map (λ a. a.1) (arrays_of c.arrays.result.now)) _ c.in_ok-users.ensures

pub returns-clause-widths : goal.returns-clause-widths
returns-clause-widths c =
    ap widths c.in_ok-users.ensures ∙ widths-filled _ (map (λ a. a.1) (arrays_of c.arrays.result.now)) ∙ ap (map (λ a. a.1)) c.arrays.ensures.arrays
