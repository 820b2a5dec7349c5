use Rattle.std.proofs.Common.{◌≡◌, map, take}
use Rattle.ot_model.specs.View.{stmt_of}
use Rattle.ot_exec_outline.specs.Tree.{statement_of}
use Rattle.ot_exec_outline.specs.View.{step_of}
use Rattle.ot_exec_outline.proofs.program.+body.Given as goal

abbrev pub invariant-body_of-loop-step : goal.invariant-body_of-loop-step
invariant-body_of-loop-step l = map stmt_of l.body.items ≡ map (λ x. statement_of (step_of x)) (take l.step-index l.steps)
