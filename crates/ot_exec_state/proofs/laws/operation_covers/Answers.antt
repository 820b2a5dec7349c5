use Rattle.ot_exec_state.proofs.CoverLemmas.{operation_covers}
use Rattle.ot_exec_state.proofs.laws.operation_covers.Goals as goal

pub returns : goal.returns
returns c = operation_covers
