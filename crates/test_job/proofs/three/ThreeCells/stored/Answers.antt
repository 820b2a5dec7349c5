use Rattle.std.proofs.Common.{arith}
use Rattle.test_job.proofs.ThereLemmas.{there}
use Rattle.test_job.proofs.three.ThreeCells.stored.Goals as goal

pub stored-requires : goal.stored-requires
stored-requires c = there c.self.inside.job.cells 0 c.self.invariant (omega arith)

pub stored-requires-2 : goal.stored-requires-2
stored-requires-2 c = there c.self.inside.job.cells 1 c.self.invariant (omega arith)

pub stored-requires-3 : goal.stored-requires-3
stored-requires-3 c = there c.self.inside.job.cells 2 c.self.invariant (omega arith)
