use Rattle.std.proofs.Common.{◌≡◌, ℕ, ◌≤◌, ◌<◌, length}
use Rattle.std.specs.Prelude.{None}
use Rattle.ot_model.specs.View.{stmts_of}
use Rattle.ot_why_blame.specs.Walk.{pending_carried}
use Rattle.ot_why_blame.proofs.left.find_pending.Given as goal

abbrev pub decreases-loop-task : goal.decreases-loop-task
decreases-loop-task l = length l.tasks.items

-- none was carried so far
abbrev pub invariant-loop-other : goal.invariant-loop-other
invariant-loop-other l = (task : ℕ) → l.place ≤ task → task < l.other → pending_carried task None l.place (stmts_of l.body.items) ≡ None
