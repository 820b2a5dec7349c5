use Rattle.std.proofs.Common.{subst}
use Rattle.ot_hall.specs.Floors.{NothingAnywhere}
use Rattle.ot_pool.specs.Shared.{Shared}
use Rattle.ot_pool.proofs.hub.Hub.any_claimable.Goals as goal

pub returns-clause-some : goal.returns-clause-some
returns-clause-some g c = λ yes. subst (λ (s : Shared). ¬ (NothingAnywhere s.floor.jobs)) c.self.view_is (c.any_claimable.ensures.some yes)
