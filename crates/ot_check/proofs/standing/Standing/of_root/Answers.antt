use Rattle.std.proofs.Common.{refl, sym}
use Rattle.ot_check.proofs.standing.Standing.of_root.Goals as goal

pub returns-clause-begun : goal.returns-clause-begun
returns-clause-begun c = record { declares = refl; closed = c.new-2.ensures; none = c.new-3.ensures.none }

pub returns-clause-none : goal.returns-clause-none
returns-clause-none c = record { told = c.in_ok-tasks.ensures.none; counted = sym c.in_ok-tasks.ensures.passed }
