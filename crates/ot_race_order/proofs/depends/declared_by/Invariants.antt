use Rattle.std.proofs.Common.{◌≡◌, map, take}
use Rattle.ot_race.specs.View.{deed_of}
use Rattle.ot_race_order.specs.Instead.{instead}
use Rattle.ot_race_order.proofs.depends.declared_by.Given as goal

abbrev pub invariant-loop-event : goal.invariant-loop-event
invariant-loop-event l = l.declared.items ≡ map (λ e. instead (deed_of e.deed)) (take l.event-index l.events)
