use Rattle.ot_check.specs.Offences.{Offends}
use Rattle.ot_check.specs.Laws.{first_offence}
use Rattle.ot_law_profile1.specs.Offences.{Offends1}
use Rattle.ot_law_profile1.specs.Upward.{up}
use Rattle.ot_law_profile1.proofs.OffenceLemmas.{offends-up, offends-old, first_of_same}
use Rattle.ot_law_profile1.proofs.laws.first_offence_is_kept.Goals as goal

pub returns : goal.returns
returns c = λ b.
    let first = c.first_offence_is_first.ensures (up b) in (
      first_of_same (Offends (up b)) (Offends1 b) (first_offence (up b)) (offends-old b) (offends-up b) first.0,
      λ told h. first.1 told (first_of_same (Offends1 b) (Offends (up b)) told (offends-up b) (offends-old b) h),
    )
