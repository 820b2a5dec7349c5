use Rattle.std.proofs.Common.{arith}
use Rattle.test_job.proofs.ThereLemmas.{there}
use Rattle.test_job.proofs.three.ThreeCells.worth.Goals as goal

pub worth-requires : goal.worth-requires
worth-requires c = there c.self.inside.job.cells 0 c.self.invariant (omega arith)

pub worth-requires-2 : goal.worth-requires-2
worth-requires-2 c = there c.self.inside.job.cells 1 c.self.invariant (omega arith)

pub worth-requires-3 : goal.worth-requires-3
worth-requires-3 c = there c.self.inside.job.cells 2 c.self.invariant (omega arith)
