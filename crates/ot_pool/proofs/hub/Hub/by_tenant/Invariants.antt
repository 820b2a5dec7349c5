use Rattle.std.proofs.Common.{◌≡◌, take}
use Rattle.ot_pool.proofs.hub.Hub.by_tenant.Given as goal

abbrev pub invariant-loop-tenant : goal.invariant-loop-tenant
invariant-loop-tenant g l = l.by_tenant.items ≡ take l.tenant l.self.floor.units
