use Rattle.ot_why_fault.proofs.RefusalLemmas.{text_is}
use Rattle.ot_why_fault.proofs.laws.whys_are_faults.Goals as goal

pub returns : goal.returns
returns c shape level variables text named = text_is shape level variables text
