use Rattle.std.proofs.Common.{◌≡◌, ◌+◌, drop, ap, arith}
use Rattle.ot_model.specs.Tree.{tasks_in, tasks_in_one}
use Rattle.ot_exec_outline.specs.Tree.{statement_of, body_of_steps}
use Rattle.ot_exec_outline.specs.View.{step_of, steps_in}
use Rattle.ot_exec_outline.proofs.StepLemmas.{rest_is}
use Rattle.ot_exec_outline.proofs.program.+tasks.Goals as goal

pub tasks_in-loop-step-preserved : goal.tasks_in-loop-step-preserved
tasks_in-loop-step-preserved t c =
    let b = c.args.steps.now.items in
    let i = c.loop-step.step-index in
    let rest = rest_is c.deref-step-items.result.now b i c.step-item.result c.deref-step-items.ensures.value c.loop-step-test.true c.step-item.is in
    let x = step_of c.step-item.result in
    let more = steps_in (drop (i + 1) b) in
    let split : tasks_in (body_of_steps (steps_in (drop i b))) ≡ tasks_in_one (statement_of x) + tasks_in (body_of_steps more) = ap (λ xs. tasks_in (body_of_steps xs)) rest in
    (omega (arith, c.both-count.ensures), omega (arith, split, c.both-count.ensures, c.tasks_one.ensures, c.loop-step.invariant.1))
