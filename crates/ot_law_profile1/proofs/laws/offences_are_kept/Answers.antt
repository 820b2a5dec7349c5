use Rattle.ot_law_profile1.proofs.OffenceLemmas.{offends-up, offends-old}
use Rattle.ot_law_profile1.proofs.laws.offences_are_kept.Goals as goal

pub returns : goal.returns
returns c = λ b place offence. (offends-old b place offence, offends-up b place offence)
