use Rattle.ot_law_profile1.proofs.SerialLemmas.{size-up, tasks_in-up}
use Rattle.ot_law_profile1.proofs.laws.counts_are_kept.Goals as goal

pub returns : goal.returns
returns c = λ b. (size-up b, tasks_in-up b)
