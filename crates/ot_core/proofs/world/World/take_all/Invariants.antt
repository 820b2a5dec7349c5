use Rattle.std.proofs.Common.{take}
use Rattle.ot_core.specs.Scenes.{RunsTo}
use Rattle.ot_core.proofs.world.World.take_all.Given as goal

abbrev pub invariant-loop-event : goal.invariant-loop-event
invariant-loop-event l = RunsTo l.fn.self (take l.event-index l.events) l.self
