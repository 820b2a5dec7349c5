use Rattle.std.proofs.Common.{◌≡◌, ◌+◌, ◌≤◌, drop}
use Rattle.std.specs.Prelude.{min}
use Rattle.ot_model.specs.Tree.{tasks_in}
use Rattle.ot_exec_outline.specs.Tree.{body_of_steps}
use Rattle.ot_exec_outline.specs.View.{steps_in}
use Rattle.ot_exec_outline.proofs.program.+tasks.Given as goal

abbrev pub invariant-tasks_in-loop-step : goal.invariant-tasks_in-loop-step
invariant-tasks_in-loop-step l =
    (l.count ≤ 20001)
    × (min (l.count + tasks_in (body_of_steps (steps_in (drop l.step-index l.steps.items)))) 20001 ≡ min (tasks_in (body_of_steps (steps_in l.steps.items))) 20001)
