use Rattle.ot_exec_state.proofs.CoverLemmas.{conversion_covers}
use Rattle.ot_exec_state.proofs.laws.conversion_covers.Goals as goal

pub returns : goal.returns
returns c = conversion_covers
