use Rattle.ot_depend.proofs.WaitsLemmas.{free-none}
use Rattle.ot_job_task.proofs.waiting.Waiting.at.Goals as goal

pub returns-in_ok-copy-in-Some-clause-knows : goal.returns-in_ok-copy-in-Some-clause-knows
returns-in_ok-copy-in-Some-clause-knows c = λ children. free-none children c.in_ok-copy-in-Some.field-0
