use Rattle.std.proofs.Common.{arith}
use Rattle.ot_hall.specs.Floors.{IsFree}
use Rattle.ot_hall.specs.FloorView.{floor_of}
use Rattle.ot_hall.proofs.FloorLemmas.{submits, seen}
use Rattle.std.specs.Prelude.{None, Some}
use Rattle.ot_hall.proofs.TurnLemmas.{hall-noted}
use Rattle.ot_hall.proofs.hall.Hall.submit.Goals as goal

pub returns-clause-begun : goal.returns-clause-begun
returns-clause-begun c =
    let f = floor_of c.self.inside in
    let free : IsFree f c.args.tenant = seen f.jobs c.args.tenant None (omega (arith, c.if-tenant-tenants.false, c.tenants.ensures)) c.in_default.ensures in
    submits f _ c.args.tenant c.args.spec c.begin.new.self c.self.view_is free c.in_default-begin.ensures.begun

pub invariant_of-self-2 : goal.invariant_of-self-2
invariant_of-self-2 c =
    hall-noted c.self.inside c.args.tenant (Some c.in_default-begin.ensures.begun.job) _ c.has_claimable.result c.put.new.self c.self.invariant (omega (arith, c.if-tenant-tenants.false, c.tenants.ensures)) c.in_default-begin.ensures.begun.new_is
    c.has_claimable.ensures c.put.ensures
