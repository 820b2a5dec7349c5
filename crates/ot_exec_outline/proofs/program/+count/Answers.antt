use Rattle.std.proofs.Common.{◌≡◌, ◌+◌, drop, ap, arith}
use Rattle.ot_model.specs.Tree.{size, size_one}
use Rattle.ot_exec_outline.specs.Tree.{statement_of, body_of_steps}
use Rattle.ot_exec_outline.specs.View.{step_of, steps_in}
use Rattle.ot_exec_outline.proofs.StepLemmas.{rest_is}
use Rattle.ot_exec_outline.proofs.program.+count.Goals as goal

pub count_in-loop-step-preserved : goal.count_in-loop-step-preserved
count_in-loop-step-preserved t c =
    let b = c.args.steps.now.items in
    let i = c.loop-step.step-index in
    let rest = rest_is c.deref-step-items.result.now b i c.step-item.result c.deref-step-items.ensures.value c.loop-step-test.true c.step-item.is in
    let x = step_of c.step-item.result in
    let more = steps_in (drop (i + 1) b) in
    let split : size (body_of_steps (steps_in (drop i b))) ≡ size_one (statement_of x) + size (body_of_steps more) = ap (λ xs. size (body_of_steps xs)) rest in
    (omega (arith, c.both-count.ensures), omega (arith, split, c.both-count.ensures, c.count_one.ensures, c.loop-step.invariant.1))
