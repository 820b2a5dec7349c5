use Rattle.ot_show_c.proofs.ClauseLemmas.{declaration_law}
use Rattle.ot_show_c.proofs.laws.declaration_is_determined.Goals as goal

pub returns : goal.returns
returns c = declaration_law
