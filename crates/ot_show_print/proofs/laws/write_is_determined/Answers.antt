use Rattle.ot_show_print.proofs.WriteLemmas.{write_law}
use Rattle.ot_show_print.proofs.laws.write_is_determined.Goals as goal

pub returns : goal.returns
returns c = write_law
