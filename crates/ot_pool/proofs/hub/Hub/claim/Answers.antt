use Rattle.ot_pool.proofs.TurnLemmas.{still-working}
use Rattle.ot_pool.proofs.hub.Hub.claim.Goals as goal

pub abort-requires : goal.abort-requires
abort-requires g c = still-working c.self.inside.hall c.claim.new.self c.in-Err.field-0.tenant c.in-Err.ensures.refused
