use Rattle.ot_exec_outline.proofs.ApartLemmas.{it}
use Rattle.ot_exec_outline.proofs.laws.awaits_it.Goals as goal

pub returns : goal.returns
returns c = it
