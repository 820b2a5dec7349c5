use Rattle.ot_core.specs.Toil.{toil}
use Rattle.ot_core.specs.Draining.{Drains}
use Rattle.ot_core.proofs.world.World.take_moves.Given as goal

abbrev pub invariant-loop-alloc : goal.invariant-loop-alloc
invariant-loop-alloc g l = goal.F-IsAlwaysCallable g l.chooser × Drains l.fn.self l.self

abbrev pub decreases-loop-alloc : goal.decreases-loop-alloc
decreases-loop-alloc g l = toil l.self
