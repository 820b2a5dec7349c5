use Rattle.ot_show_print.proofs.SectionLemmas.{cells_law}
use Rattle.ot_show_print.proofs.laws.cells_are_determined.Goals as goal

pub returns : goal.returns
returns c = cells_law
