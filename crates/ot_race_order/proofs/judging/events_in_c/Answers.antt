use Rattle.std.proofs.Common.{ap, arith, ◌∙◌}
use Rattle.std.proofs.lemmas.List.{length-map}
use Rattle.ot_race.specs.Events as s
use Rattle.ot_race.specs.View.{deed_of, event_of, events_in}
use Rattle.ot_race_order.specs.Orders.{event_in_c, deed_in_c}
use Rattle.ot_race_order.proofs.EventLemmas.{as_many, own_is, taken_many, taken_next}
use Rattle.ot_race_order.proofs.judging.events_in_c.Goals as goal

pub deed_in_c-event-requires : goal.deed_in_c-event-requires
deed_in_c-event-requires c =
    let xs = events_in c.args.events.items in
    let declared = as_many xs c.args.declared.now c.requires in
    let now = taken_many event_in_c c.loop-number.events.items xs c.loop-number.number c.loop-number.invariant in
    let all = length-map c.args.events.items event_of in
    own_is event_in_c c.loop-number.events.items xs c.args.declared.now c.loop-number.number c.index_mut-event.result.now c.index-declared-number.result c.requires
    c.loop-number.invariant (omega (arith, c.loop-number-test.true, c.len-number-end.ensures, now, all)) c.index_mut-event.ensures.value
    (omega (arith, c.loop-number-test.true, c.len-number-end.ensures, declared, all)) c.index-declared-number.is

pub loop-number-preserved : goal.loop-number-preserved
loop-number-preserved c =
    let xs = events_in c.args.events.items in
    let now = taken_many event_in_c c.loop-number.events.items xs c.loop-number.number c.loop-number.invariant in
    let all = length-map c.args.events.items event_of in
    let e = c.index_mut-event.result.now in
    taken_next event_in_c c.loop-number.events.items xs c.loop-number.number e (record e { deed = c.deed_in_c-event.result; uses = c.leave_out_folds.new.uses }) c.loop-number.invariant
    (omega (arith, c.loop-number-test.true, c.len-number-end.ensures, now, all)) c.index_mut-event.ensures.value (ap (λ d. s.event e.task e.place d c.leave_out_folds.new.uses.items) c.deed_in_c-event.ensures
    ∙ ap (λ us. s.event e.task e.place (deed_in_c (deed_of e.deed)) us) c.leave_out_folds.ensures)
