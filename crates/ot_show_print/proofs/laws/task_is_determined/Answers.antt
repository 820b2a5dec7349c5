use Rattle.ot_show_print.proofs.ClauseLemmas.{task_law}
use Rattle.ot_show_print.proofs.laws.task_is_determined.Goals as goal

pub returns : goal.returns
returns c = task_law
