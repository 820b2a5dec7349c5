use Rattle.ot_exec_outline.proofs.ApartLemmas.{earlier, later}
use Rattle.ot_exec_outline.proofs.laws.orders_no_other.Goals as goal

pub returns : goal.returns
returns c = λ own d other apart. (earlier own d other apart, later own d other apart)
