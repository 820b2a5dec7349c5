use Rattle.std.proofs.Common.{rules, arith}
use Rattle.std.proofs.lemmas.Grind.{common_steps}
use Rattle.ot_show_c.proofs.clause.items.Goals as goal

pub loop-section-preserved : goal.loop-section-preserved
loop-section-preserved c = (search rules, search rules, grind (arith, common_steps))
