use Rattle.ot_exec_outline.proofs.OutlineLemmas.{plain}
use Rattle.ot_exec_outline.proofs.laws.outline_is_plain.Goals as goal

pub returns : goal.returns
returns c = plain
