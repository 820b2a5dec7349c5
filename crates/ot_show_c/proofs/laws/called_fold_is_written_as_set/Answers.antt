use Rattle.ot_show_c.proofs.StatementLemmas.{as_set_law}
use Rattle.ot_show_c.proofs.laws.called_fold_is_written_as_set.Goals as goal

pub returns : goal.returns
returns c = as_set_law
