use Rattle.std.proofs.Common.{◌≡◌, ◌+◌}
use Rattle.ot_core.specs.Toil.{sum_below, moves_at}
use Rattle.ot_core.proofs.world.World.event_at.Given as goal

abbrev pub invariant-loop-tenant : goal.invariant-loop-tenant
invariant-loop-tenant l = l.left + sum_below (moves_at l.self) l.tenant ≡ l.fn.k
