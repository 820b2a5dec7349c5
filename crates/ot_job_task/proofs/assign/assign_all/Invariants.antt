use Rattle.std.proofs.Common.{◌≡◌, drop, length, map}
use Rattle.std.specs.Prelude.{IsSome}
use Rattle.ot_model.specs.declared.expr.Cell.{Cell}
use Rattle.ot_parts.specs.Steps.{deed_of}
use Rattle.ot_owner.specs.Lending.{value_at, lease_of}
use Rattle.ot_job_task.specs.Copies.{copies_assigned}
use Rattle.ot_job_task.specs.Deeds.{copies_made, CanDoAll}
use Rattle.ot_job_task.proofs.assign.assign_all.Given as goal

abbrev pub invariant-loop-step : goal.invariant-loop-step
invariant-loop-step l =
    (lease_of l.lent ≡ lease_of l.fn.lent)
    × ((c : Cell) → copies_made (map deed_of (drop l.step-index l.steps)) l.stack (value_at l.lent) c ≡ copies_assigned l.assigns (value_at l.fn.lent) c)
    × CanDoAll l.lent (length l.stack) (map deed_of (drop l.step-index l.steps))
    × ((c : Cell) → IsSome (value_at l.fn.lent c) → IsSome (value_at l.lent c))
