use Rattle.ot_hall.specs.FloorView.{floor_of}
use Rattle.ot_hall.proofs.FloorLemmas.{job-within, aborts-job}
use Rattle.std.proofs.Common.{refl}
use Rattle.std.specs.Prelude.{Some}
use Rattle.ot_hall.proofs.TurnLemmas.{hall-noted}
use Rattle.ot_hall.proofs.hall.Hall.abort.Goals as goal

pub returns : goal.returns
returns c = aborts-job (floor_of c.self.inside) _ c.args.tenant c.get_mut.result.now c.abort.new.self c.self.view_is c.get_mut.ensures.value c.abort.ensures

pub invariant_of-self : goal.invariant_of-self
invariant_of-self c =
    hall-noted c.self.inside c.args.tenant (Some c.abort.new.self) _ c.has_claimable.result c.put.new.self c.self.invariant (job-within c.self.inside.jobs c.args.tenant c.get_mut.result.now c.get_mut.ensures.value) refl
    c.has_claimable.ensures c.put.ensures
