use Rattle.ot_show_print.proofs.StatementLemmas.{statement_law}
use Rattle.ot_show_print.proofs.laws.statement_is_determined.Goals as goal

pub returns : goal.returns
returns c = statement_law
