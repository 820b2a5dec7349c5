use Rattle.ot_show_c.proofs.NameLemmas.{names_law}
use Rattle.ot_show_c.proofs.laws.names_stay_apart.Goals as goal

pub returns : goal.returns
returns c = names_law
