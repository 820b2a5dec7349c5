use Rattle.std.proofs.Common.{◌≡◌, ◌≤◌, ◌∙◌, ap, arith}
use Rattle.ot_model.specs.Tree.{size, tasks_in}
use Rattle.ot_model.specs.View.{stmts_of}
use Rattle.ot_model.proofs.CountsLemmas.{tasks_in-≤-size}
use Rattle.ot_exec_outline.specs.Tree.{body_of_steps}
use Rattle.ot_exec_outline.specs.View.{steps_in}
use Rattle.ot_exec_outline.proofs.program.program_of.Goals as goal

pub invariant_of-result : goal.invariant_of-result
invariant_of-result c =
    let b = body_of_steps (steps_in c.args.steps.now.items) in
    let same : stmts_of c.in-Ok.body.items ≡ b = c.in-Ok.ensures ∙ ap (λ xs. body_of_steps (steps_in xs)) c.deref.ensures.value in
    let sizes : size (stmts_of c.in-Ok.body.items) ≡ size b = ap size same in
    let counts : tasks_in (stmts_of c.in-Ok.body.items) ≡ tasks_in b = ap tasks_in same in
    let small : tasks_in b ≤ size b = tasks_in-≤-size b in
    record {
      statements_are = omega (arith, sizes, c.count_in-statements.ensures, c.if-statements-eq-MANY.false);
      tasks_are = omega (arith, counts, small, c.tasks_in-tasks.ensures, c.count_in-statements.ensures, c.if-statements-eq-MANY.false);
      few = omega (arith, c.count_in-statements.ensures, c.if-statements-eq-MANY.false);
    }
