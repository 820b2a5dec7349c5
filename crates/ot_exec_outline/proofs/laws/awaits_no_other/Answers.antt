use Rattle.ot_exec_outline.proofs.ApartLemmas.{no_other}
use Rattle.ot_exec_outline.proofs.laws.awaits_no_other.Goals as goal

pub returns : goal.returns
returns c = no_other
