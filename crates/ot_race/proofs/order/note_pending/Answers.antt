use Rattle.std.proofs.Common.{◌≢◌, ◌∙◌, ℕ, List, ap, refl, inl, inr}
use Rattle.std.specs.Prelude.{option_map, Some}
use Rattle.ot_model.specs.declared.stmt.Use.{Use}
use Rattle.ot_race.specs.Events as s
use Rattle.ot_race.specs.View.{deed_of, event_of, events_in}
use Rattle.ot_race.proofs.PlaceLemmas.{place_map, place_read}
use Rattle.ot_race.proofs.StandingLemmas.{not_touches, not_awaits, not_leaves}
use Rattle.ot_race.proofs.NoteLemmas.{on_ok_two, pending_begun, pending_passed, pending_same}
use Rattle.ot_race.proofs.order.note_pending.Goals as goal

pub returns-in-Begins-clause-pending : goal.returns-in-Begins-clause-pending
returns-in-Begins-clause-pending c =
    let events = c.args.events.now in
    let es = events_in events in
    let n = c.args.at.number in
    let ends = c.args.at.ends.now in
    let r = c.index-events-at.result in
    let there = place_map event_of events n r (place_read events n r c.requires.there c.index-events-at.is) in
    on_ok_two c.add_pending.result
    (λ here others.
    pending_begun es n c.in-Begins.parent r.task c.in-Begins.field-1.now (event_of r) ends c.args.tasks.now.items c.add_pending.new.tasks.items there refl
    (ap deed_of c.in-Begins.is) here others)
    c.add_pending.ensures.there c.add_pending.ensures.others

pub returns-in-None-clause-pending : goal.returns-in-None-clause-pending
returns-in-None-clause-pending c =
    let events = c.args.events.now in
    let es = events_in events in
    let n = c.args.at.number in
    let ends = c.args.at.ends.now in
    let r = c.index-events-at.result in
    let there = place_map event_of events n r (place_read events n r c.requires.there c.index-events-at.is) in
    on_ok_two c.pass_pending.result
    (λ here others.
    pending_passed es n r.task (event_of r) ends c.args.tasks.now.items c.pass_pending.new.tasks.items there refl
    (ap deed_of c.in-Awaits.is ∙ ap (λ w. s.Awaits (option_map (λ d. d.now) w)) c.in-None.is) here others)
    c.pass_pending.ensures.there c.pass_pending.ensures.others

pub returns-in-Some-clause-pending : goal.returns-in-Some-clause-pending
returns-in-Some-clause-pending c =
    let events = c.args.events.now in
    let es = events_in events in
    let n = c.args.at.number in
    let ends = c.args.at.ends.now in
    let r = c.index-events-at.result in
    let there = place_map event_of events n r (place_read events n r c.requires.there c.index-events-at.is) in
    pending_same es n (event_of r) ends c.args.tasks.now.items there
    (λ p us. not_awaits (deed_of r.deed) (Some c.in-Some.field-0.now) p us (ap deed_of c.in-Awaits.is ∙ ap (λ w. s.Awaits (option_map (λ d. d.now) w)) c.in-Some.is))

pub returns-in-Touches-clause-pending : goal.returns-in-Touches-clause-pending
returns-in-Touches-clause-pending c =
    let events = c.args.events.now in
    let es = events_in events in
    let n = c.args.at.number in
    let ends = c.args.at.ends.now in
    let r = c.index-events-at.result in
    let there = place_map event_of events n r (place_read events n r c.requires.there c.index-events-at.is) in
    let free : (p : ℕ) (us : List Use) → deed_of r.deed ≢ s.Begins p us = λ p us. elim c.in-Touches.is [
      | inl a ↦ not_touches (deed_of r.deed) p us (ap deed_of a)
      | inr l ↦ not_leaves (deed_of r.deed) l.0 p us (ap deed_of l.1)
    ] in
    pending_same es n (event_of r) ends c.args.tasks.now.items there free
