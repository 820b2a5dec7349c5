use Rattle.ot_show_print.proofs.ValueLemmas.{law}
use Rattle.ot_show_print.proofs.laws.value_is_determined.Goals as goal

pub returns : goal.returns
returns c = law
