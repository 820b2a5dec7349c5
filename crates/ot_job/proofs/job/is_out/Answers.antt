use Rattle.std.proofs.Common.{◌≡◌, ◌∙◌, ap, sym, arith, IsTrue, subst, ◌↔◌}
use Rattle.ot_job.proofs.Common.{Region, at}
use Rattle.ot_job_task.specs.Pieces.{Runs}
use Rattle.ot_job.proofs.ClaimableLemmas.{at-here}
use Rattle.ot_job.proofs.job.is_out.Goals as goal
use Rattle.ot_job.proofs.SoundLemmas.{at-past}

pub returns-then-task-tasks : goal.returns-then-task-tasks
returns-then-task-tasks c =
    let gone = at-past c.args.tasks.now c.args.done.now.task (omega (arith, c.if-task-tasks.true, c.task-task.ensures)) in
    ((λ h. cc), λ out. (let none : _ ≡ _ = sym (ap (λ (r : Region). r.running) gone) ∙ out.0.1 in cc))

pub returns : goal.returns
returns c =
    let d = c.args.done.now in
    let here = ap (at c.args.tasks.now) (sym c.task-task.ensures)
    ∙ at-here c.args.tasks.now c.task-task.result c.index-tasks-task.result (omega (arith, c.if-task-tasks.false)) c.index-tasks-task.is in
    subst (λ (r : Region). IsTrue c.is_of.result ↔ Runs r d.assigns d.test d.lent) (sym here) c.is_of.ensures
