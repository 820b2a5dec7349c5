use Rattle.std.proofs.Common.{arith}
use Rattle.std.specs.Prelude.{None, Some}
use Rattle.ot_hall.specs.Floors.{IsFree}
use Rattle.ot_hall.specs.FloorView.{floor_of}
use Rattle.ot_hall.proofs.FloorLemmas.{enters, seen}
use Rattle.ot_hall.proofs.TurnLemmas.{hall-noted}
use Rattle.ot_hall.proofs.hall.Hall.enter.Goals as goal

pub returns-clause-entered : goal.returns-clause-entered
returns-clause-entered c =
    let f = floor_of c.self.inside in
    let free : IsFree f c.args.tenant = seen f.jobs c.args.tenant None (omega (arith, c.if-tenant-tenants.false, c.tenants.ensures)) c.in_default.ensures in
    enters f _ c.args.tenant c.args.job c.enter.new.self c.self.view_is free c.in_default-enter.ensures.entered

pub invariant_of-self-2 : goal.invariant_of-self-2
invariant_of-self-2 c =
    hall-noted c.self.inside c.args.tenant (Some c.args.job) _ c.has_claimable.result c.put.new.self c.self.invariant (omega (arith, c.if-tenant-tenants.false, c.tenants.ensures)) c.in_default-enter.ensures.entered
    c.has_claimable.ensures c.put.ensures
