use Rattle.std.proofs.Common.{arith, ◌∙◌, map}
use Rattle.ot_parts.specs.Steps.{deed_of}
use Rattle.ot_parts.proofs.StepLemmas.{written, ended}
use Rattle.ot_parts.proofs.steps.steps_of.Goals as goal

pub loop-assign-preserved : goal.loop-assign-preserved
loop-assign-preserved c =
    written c.args.list.now (map deed_of c.loop-assign.steps.items) (map deed_of c.write_steps.new.steps.items) c.loop-assign.assign-index c.assign-item.result c.loop-assign-test.true c.assign-item.is c.in_ok-write_steps.ensures
    ∙ c.loop-assign.invariant

pub returns : goal.returns
returns c = ended c.args.list.now (map deed_of c.loop-assign.steps.items) c.loop-assign.assign-index (omega (arith, c.loop-assign-test.false)) ∙ c.loop-assign.invariant
