use Rattle.std.proofs.Common.{rules}
use Rattle.ot_show_c.proofs.RowLemmas.{row_step}
use Rattle.ot_show_c.proofs.clause.row.Goals as goal

pub loop-place-preserved : goal.loop-place-preserved
loop-place-preserved c = (search rules, search rules, search (rules, row_step))
