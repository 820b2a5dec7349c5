use Rattle.ot_show_c.proofs.ValueLemmas.{value_law}
use Rattle.ot_show_c.proofs.laws.value_is_determined.Goals as goal

pub returns : goal.returns
returns c = value_law
