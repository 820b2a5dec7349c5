use Rattle.ot_exec_state.proofs.CoverLemmas.{advance_covers}
use Rattle.ot_exec_state.proofs.laws.advance_covers.Goals as goal

pub returns : goal.returns
returns c = advance_covers
