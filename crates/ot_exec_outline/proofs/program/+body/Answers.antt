use Rattle.std.proofs.Common.{◌∙◌, map, ap, arith}
use Rattle.std.proofs.lemmas.List.{take_all}
use Rattle.ot_exec_outline.specs.Tree.{statement_of}
use Rattle.ot_exec_outline.specs.View.{step_of}
use Rattle.ot_exec_outline.proofs.StepLemmas.{stmts_as}
use Rattle.ot_exec_outline.proofs.program.+body.Goals as goal

pub body_of-returns : goal.body_of-returns
body_of-returns t c =
    stmts_as c.loop-step.body.items c.args.steps.now
    (c.loop-step.invariant ∙ ap (map (λ x. statement_of (step_of x))) (take_all c.loop-step.step-index c.args.steps.now (omega (arith, c.loop-step-test.false))))
