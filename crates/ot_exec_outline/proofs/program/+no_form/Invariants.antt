use Rattle.std.proofs.Common.{◌≡◌, drop}
use Rattle.ot_exec_outline.specs.Tree.{no_form}
use Rattle.ot_exec_outline.specs.View.{steps_in}
use Rattle.ot_exec_outline.proofs.program.+no_form.Given as goal

-- what is left decides
abbrev pub invariant-no_form_in-loop-step : goal.invariant-no_form_in-loop-step
invariant-no_form_in-loop-step l = no_form (steps_in (drop l.step-index l.steps.items)) ≡ no_form (steps_in l.steps.items)
