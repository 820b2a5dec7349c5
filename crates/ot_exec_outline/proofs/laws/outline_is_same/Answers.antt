use Rattle.ot_exec_outline.proofs.OutlineLemmas.{same}
use Rattle.ot_exec_outline.proofs.laws.outline_is_same.Goals as goal

pub returns : goal.returns
returns c = same
