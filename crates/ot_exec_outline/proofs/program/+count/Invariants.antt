use Rattle.std.proofs.Common.{◌≡◌, ◌+◌, ◌≤◌, drop}
use Rattle.std.specs.Prelude.{min}
use Rattle.ot_model.specs.Tree.{size}
use Rattle.ot_exec_outline.specs.Tree.{body_of_steps}
use Rattle.ot_exec_outline.specs.View.{steps_in}
use Rattle.ot_exec_outline.proofs.program.+count.Given as goal

abbrev pub invariant-count_in-loop-step : goal.invariant-count_in-loop-step
invariant-count_in-loop-step l =
    (l.count ≤ 20001)
    × (min (l.count + size (body_of_steps (steps_in (drop l.step-index l.steps.items)))) 20001 ≡ min (size (body_of_steps (steps_in l.steps.items))) 20001)
