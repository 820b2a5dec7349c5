use Rattle.std.proofs.Common.{◌∙◌, ap, sym, arith}
use Rattle.ot_job.proofs.Common.{is_ready, Region}
use Rattle.ot_job.proofs.ClaimableLemmas.{at-here}
use Rattle.ot_job.proofs.pick.is_ready.Goals as goal
use Rattle.ot_job.proofs.SoundLemmas.{at-past}

pub returns-then-parent-tasks : goal.returns-then-parent-tasks
returns-then-parent-tasks c =
    sym (ap (λ (r : Region). is_ready r.children c.args.child) (at-past c.args.tasks.now c.args.parent (omega (arith, c.if-parent-tasks.true))))

pub returns : goal.returns
returns c =
    c.lets_begin.ensures ∙ sym (ap (λ (r : Region). is_ready r.children c.args.child)
    (at-here c.args.tasks.now c.args.parent c.index-tasks-parent.result (omega (arith, c.if-parent-tasks.false)) c.index-tasks-parent.is))
