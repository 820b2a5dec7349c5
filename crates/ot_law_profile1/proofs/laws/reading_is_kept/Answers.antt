use Rattle.ot_law_profile1.proofs.ReadingLemmas.{reading-up, first-other}
use Rattle.ot_law_profile1.proofs.laws.reading_is_kept.Goals as goal

pub returns-clause-kept : goal.returns-clause-kept
returns-clause-kept c = reading-up

pub returns-clause-first : goal.returns-clause-first
returns-clause-first c = first-other
