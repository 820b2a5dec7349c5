use Rattle.ot_show_print.proofs.SectionLemmas.{come_back}
use Rattle.ot_show_print.proofs.laws.cells_come_back.Goals as goal

pub returns : goal.returns
returns c = come_back
