use Rattle.std.proofs.Common.{◌≡◌, length, map, take}
use Rattle.ot_race.specs.View.{event_of}
use Rattle.ot_exec_outline.specs.View.{noted_of}
use Rattle.ot_exec_outline.proofs.noted.events_of.Given as goal

abbrev pub invariant-loop-noted : goal.invariant-loop-noted
invariant-loop-noted l = (map event_of l.events.items ≡ map noted_of (take l.noted-index l.log)) × (length l.events.items ≡ l.noted-index)
