use Rattle.ot_show_print.proofs.GroupLemmas.{group_law}
use Rattle.ot_show_print.proofs.laws.group_is_determined.Goals as goal

pub returns : goal.returns
returns c = group_law
