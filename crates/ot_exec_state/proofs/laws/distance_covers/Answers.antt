use Rattle.ot_exec_state.proofs.CoverLemmas.{distance_covers}
use Rattle.ot_exec_state.proofs.laws.distance_covers.Goals as goal

pub returns : goal.returns
returns c = distance_covers
