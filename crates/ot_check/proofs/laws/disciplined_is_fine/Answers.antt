use Rattle.ot_check.proofs.FineLemmas.{disciplined-fine}
use Rattle.ot_check.proofs.laws.disciplined_is_fine.Goals as goal

pub returns : goal.returns
returns c = disciplined-fine
