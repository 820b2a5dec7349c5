use Rattle.std.proofs.Common.{◌-◌, arith}
use Rattle.ot_job_task.proofs.StackLemmas.{length-piled}
use Rattle.ot_job_task.proofs.stack.Stack.pop.Goals as goal

pub returns-clause-room : goal.returns-clause-room
returns-clause-room c = let long = length-piled (c.self.inside.height - 1) c.self.inside.numbers in omega (arith, c.self.invariant)
