use Rattle.ot_hall.specs.FloorView.{floor_of}
use Rattle.ot_hall.proofs.FloorLemmas.{job-within, claims-of, runs-short}
use Rattle.std.proofs.Common.{refl}
use Rattle.std.specs.Prelude.{Some}
use Rattle.ot_hall.proofs.TurnLemmas.{hall-noted}
use Rattle.ot_hall.proofs.hall.Hall.claim_of.Goals as goal

pub returns-clause-claimed : goal.returns-clause-claimed
returns-clause-claimed c = claims-of (floor_of c.self.inside) _ c.args.tenant c.args.pick c.args.worker c.get_mut.result.now c.claim-claimed.new.self c.claim-claimed.result c.self.view_is c.get_mut.ensures.value c.claim-claimed.ensures.claimed

pub returns-clause-refused : goal.returns-clause-refused
returns-clause-refused c = runs-short (floor_of c.self.inside) _ c.args.tenant c.get_mut.result.now c.claim-claimed.new.self c.claim-claimed.result c.self.view_is c.get_mut.ensures.value c.claim-claimed.ensures.working c.claim-claimed.ensures.some c.claim-claimed.ensures.refused

pub invariant_of-self : goal.invariant_of-self
invariant_of-self c =
    hall-noted c.self.inside c.args.tenant (Some c.claim-claimed.new.self) _ c.has_claimable.result c.put.new.self c.self.invariant (job-within c.self.inside.jobs c.args.tenant c.get_mut.result.now c.get_mut.ensures.value) refl
    c.has_claimable.ensures c.put.ensures
