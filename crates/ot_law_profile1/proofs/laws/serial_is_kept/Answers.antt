use Rattle.ot_law_profile1.proofs.SerialLemmas.{serial-up}
use Rattle.ot_law_profile1.proofs.laws.serial_is_kept.Goals as goal

pub returns : goal.returns
returns c = serial-up
