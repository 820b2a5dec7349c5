use Rattle.ot_exec_state.proofs.CoverLemmas.{branch_covers}
use Rattle.ot_exec_state.proofs.laws.branch_covers.Goals as goal

pub returns : goal.returns
returns c = branch_covers
