use Rattle.ot_show_print.proofs.WaitLemmas.{wait_law}
use Rattle.ot_show_print.proofs.laws.wait_is_determined.Goals as goal

pub returns : goal.returns
returns c = wait_law
