use Rattle.std.proofs.Common.{ℕ, Bool, length, take}
use Rattle.ot_job.proofs.Common.{Tells, IsRefreshed, members}
use Rattle.ot_job.proofs.pick.refresh_children.Given as goal

abbrev pub invariant-loop-child : goal.invariant-loop-child
invariant-loop-child l =
    (old : ℕ → Bool) → Tells (length l.tasks) (members l.tasks) old l.fn.roster → IsRefreshed l.tasks l.parent (take l.child-index l.children) old l.roster
