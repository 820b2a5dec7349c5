use Rattle.ot_check.proofs.ApartLemmas.{apart}
use Rattle.ot_check.proofs.laws.apart.Goals as goal

pub returns : goal.returns
returns c = apart
