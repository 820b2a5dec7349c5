use Rattle.std.proofs.Common.{◌≡◌}
use Rattle.ot_sim.specs.Running.{counts_at}
use Rattle.ot_sim.proofs.play.counts_given.Given as goal

abbrev pub invariant-loop-tenant : goal.invariant-loop-tenant
invariant-loop-tenant l = l.given.items ≡ counts_at l.world l.tenant
