use Rattle.ot_race_order.proofs.AlikeLemmas.{no_fold_same}
use Rattle.ot_race_order.proofs.laws.no_fold_is_same.Goals as goal

pub returns : goal.returns
returns c = no_fold_same
