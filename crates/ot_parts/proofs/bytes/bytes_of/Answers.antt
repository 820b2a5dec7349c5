use Rattle.std.proofs.Common.{arith, ◌∙◌}
use Rattle.ot_parts.proofs.ByteLemmas.{written, ended}
use Rattle.ot_parts.proofs.bytes.bytes_of.Goals as goal

pub loop-assign-preserved : goal.loop-assign-preserved
loop-assign-preserved c =
    written c.args.list.now c.loop-assign.bytes.items c.write_assign.new.bytes.items c.loop-assign.assign-index c.assign-item.result c.loop-assign-test.true c.assign-item.is c.in_ok-write_assign.ensures
    ∙ c.loop-assign.invariant

pub returns : goal.returns
returns c = ended c.args.list.now c.loop-assign.bytes.items c.loop-assign.assign-index (omega (arith, c.loop-assign-test.false)) ∙ c.loop-assign.invariant
