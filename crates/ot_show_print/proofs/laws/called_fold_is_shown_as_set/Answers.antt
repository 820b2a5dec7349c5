use Rattle.ot_show_print.proofs.WriteLemmas.{called_law}
use Rattle.ot_show_print.proofs.laws.called_fold_is_shown_as_set.Goals as goal

pub returns : goal.returns
returns c = called_law
