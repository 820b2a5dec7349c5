use Rattle.std.proofs.Common.{ap, arith}
use Rattle.std.proofs.lemmas.List.{length-map}
use Rattle.ot_race.specs.Events as s
use Rattle.ot_race.specs.View.{deed_of, event_of, events_in}
use Rattle.ot_race_order.specs.Orders.{event_by_pointers}
use Rattle.ot_race_order.proofs.EventLemmas.{taken_many, taken_next}
use Rattle.ot_race_order.proofs.judging.events_by_pointers.Goals as goal

pub loop-number-preserved : goal.loop-number-preserved
loop-number-preserved c =
    let xs = events_in c.args.events.items in
    let now = taken_many event_by_pointers c.loop-number.events.items xs c.loop-number.number c.loop-number.invariant in
    let all = length-map c.args.events.items event_of in
    let e = c.index_mut.result.now in
    taken_next event_by_pointers c.loop-number.events.items xs c.loop-number.number e (record e { uses = c.leave_out_folds.new.uses }) c.loop-number.invariant
    (omega (arith, c.loop-number-test.true, c.len-number-end.ensures, now, all)) c.index_mut.ensures.value
    (ap (λ us. s.event e.task e.place (deed_of e.deed) us) c.leave_out_folds.ensures)
