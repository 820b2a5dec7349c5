use Rattle.ot_hall.specs.FloorView.{floor_of}
use Rattle.ot_hall.proofs.FloorLemmas.{has-over, leaves}
use Rattle.ot_hall.proofs.TurnLemmas.{hall-left}
use Rattle.ot_hall.proofs.hall.Hall.leave.Goals as goal

pub take-job-requires : goal.take-job-requires
take-job-requires c = has-over (floor_of c.self.inside) _ c.args.tenant c.self.view_is c.requires

pub returns : goal.returns
returns c = leaves (floor_of c.self.inside) _ c.args.tenant c.take-job.result c.take-job.new.self c.self.view_is c.requires c.take-job.ensures.job c.take-job.ensures.left

pub invariant_of-self : goal.invariant_of-self
invariant_of-self c =
    hall-left c.self.inside c.args.tenant c.take-job.result c.take-job.new.self c.put.new.self c.self.invariant c.take-job.ensures.job c.take-job.ensures.left c.put.ensures
