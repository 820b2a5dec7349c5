use Rattle.std.proofs.Common.{arith, refl}
use Rattle.std.proofs.lemmas.Grind.{common_steps}
use Rattle.ot_hall.specs.FloorView.{floor_of}
use Rattle.ot_hall.proofs.FloorLemmas.{job-within, settles, written-again, units-read}
use Rattle.std.specs.Prelude.{Some}
use Rattle.ot_hall.proofs.TurnLemmas.{hall-noted}
use Rattle.ot_hall.proofs.hall.Hall.settle.Goals as goal

pub returns-in-Err-clause-refused : goal.returns-in-Err-clause-refused
returns-in-Err-clause-refused c = written-again (floor_of c.self.inside) _ c.args.tenant c.get_mut.result.now c.settle-settled.new.self c.self.view_is c.get_mut.ensures.value c.in-Err.ensures.refused

pub returns-clause-settled : goal.returns-clause-settled
returns-clause-settled c =
    let within = job-within c.self.inside.jobs c.args.tenant c.get_mut.result.now c.get_mut.ensures.value in
    let read = units-read c.self.inside.units.items c.args.tenant c.index_mut.result.now (omega (arith, within, c.self.invariant.as_many)) c.index_mut.ensures.value in
    settles (floor_of c.self.inside) _ c.args.tenant c.args.done c.in-Ok.units _ c.get_mut.result.now c.settle-settled.new.self c.self.view_is c.get_mut.ensures.value c.in-Ok.ensures.settled
    (omega (arith, read, c.from.ensures))

pub invariant_of-self : goal.invariant_of-self
invariant_of-self c =
    hall-noted c.self.inside c.args.tenant (Some c.settle-settled.new.self) _ c.has_claimable.result c.put.new.self c.self.invariant (job-within c.self.inside.jobs c.args.tenant c.get_mut.result.now c.get_mut.ensures.value) refl
    c.has_claimable.ensures c.put.ensures

pub invariant_of-self-2 : goal.invariant_of-self-2
invariant_of-self-2 c =
    let marks =
    (hall-noted c.self.inside c.args.tenant (Some c.settle-settled.new.self) _ c.has_claimable.result c.put.new.self c.self.invariant (job-within c.self.inside.jobs c.args.tenant c.get_mut.result.now c.get_mut.ensures.value) refl
    c.has_claimable.ensures c.put.ensures).marks in
    grind (arith, common_steps, marks)
