use Rattle.std.proofs.Common.{arith}
use Rattle.std.proofs.lemmas.Grind.{common_steps}
use Rattle.ot_c_judge.proofs.start.shape_of.Goals as goal

pub new-requires : goal.new-requires
new-requires c = record { few = grind (arith, common_steps); short = c.loop-array.invariant.short }
