use Rattle.ot_show_print.proofs.StatementLemmas.{shown_so_law}
use Rattle.ot_show_print.proofs.laws.statement_is_shown_so.Goals as goal

pub returns : goal.returns
returns c = shown_so_law
