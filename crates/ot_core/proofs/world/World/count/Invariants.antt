use Rattle.std.proofs.Common.{◌≡◌, ◌≤◌, ◌<◌, ◌*◌, ℕ}
use Rattle.ot_hall.specs.Floors.{job_of}
use Rattle.ot_hall.specs.Lively.{LivelyAt}
use Rattle.ot_core.specs.Toil.{sum_below, moves_at}
use Rattle.ot_core.proofs.world.World.count.Given as goal

abbrev pub invariant-loop-tenant : goal.invariant-loop-tenant
invariant-loop-tenant l =
    (l.count ≡ sum_below (moves_at l.self) l.tenant) × (l.count ≤ l.tenant * 400000) × ((t : ℕ) → t < l.tenant → LivelyAt (job_of l.self.floor.jobs t))
