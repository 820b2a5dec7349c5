use Rattle.std.specs.Prelude.{None}
use Rattle.ot_race.specs.Events.{beginning}
use Rattle.ot_exec_outline.proofs.OutlineLemmas.{events}
use Rattle.ot_exec_outline.proofs.laws.outline_happens.Goals as goal

pub returns : goal.returns
returns c = λ way chosen body cells. events way chosen None 0 1 body (beginning cells)
