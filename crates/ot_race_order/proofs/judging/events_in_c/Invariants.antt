use Rattle.std.proofs.Common.{◌≡◌, ◌++◌, map, take, drop}
use Rattle.ot_race.specs.View.{events_in}
use Rattle.ot_race_order.specs.Orders.{event_in_c}
use Rattle.ot_race_order.proofs.judging.events_in_c.Given as goal

-- the first so many are as C takes them, and the others as they were
abbrev pub invariant-loop-number : goal.invariant-loop-number
invariant-loop-number l =
    events_in l.events.items ≡ map event_in_c (take l.number (events_in l.initial.events.items)) ++ drop l.number (events_in l.initial.events.items)
