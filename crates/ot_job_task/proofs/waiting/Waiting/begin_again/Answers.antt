use Rattle.std.proofs.Common.{[]}
use Rattle.ot_depend.proofs.WaitsLemmas.{free-none}
use Rattle.ot_job_task.proofs.waiting.Waiting.begin_again.Goals as goal

pub returns-in-For-clause-knows : goal.returns-in-For-clause-knows
returns-in-For-clause-knows c = λ children. free-none children []
