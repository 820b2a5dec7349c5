use Rattle.std.proofs.Common.{◌≡◌, ◌+◌, drop}
use Rattle.ot_job.proofs.Common.{weight_of}
use Rattle.ot_job.proofs.tasks.weigh_tasks.Given as goal

-- what is weighed and what is not yet weigh what all do
abbrev pub invariant-loop-task : goal.invariant-loop-task
invariant-loop-task l = l.sum + weight_of (drop l.task-index l.tasks) ≡ weight_of l.tasks
