use Rattle.std.proofs.Common.{sym, subst}
use Rattle.ot_job_task.specs.RegionView.{KnowsFree}
use Rattle.ot_job_task.proofs.WaitingLemmas.{knows-finished}
use Rattle.ot_job_task.proofs.task.Task.release_child.Goals as goal

pub pass_free-requires : goal.pass_free-requires
pass_free-requires c =
    subst (KnowsFree c.self.inside.waiting) (sym c.release-freed.ensures.finished)
    (knows-finished c.self.inside.waiting c.self.inside.children c.args.child c.self.invariant)
