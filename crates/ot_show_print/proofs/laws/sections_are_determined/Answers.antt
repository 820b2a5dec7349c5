use Rattle.ot_show_print.proofs.SectionLemmas.{sections_law}
use Rattle.ot_show_print.proofs.laws.sections_are_determined.Goals as goal

pub returns : goal.returns
returns c = sections_law
