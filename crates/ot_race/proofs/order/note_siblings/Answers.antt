use Rattle.std.proofs.Common.{◌≢◌, ◌∙◌, ℕ, List, ap, refl, subst, inl, inr}
use Rattle.std.specs.Prelude.{option_map, None}
use Rattle.std.proofs.lemmas.Result.{on_ok_weaker}
use Rattle.ot_model.specs.declared.stmt.Use.{Use}
use Rattle.ot_race.specs.Events as s
use Rattle.ot_race.specs.Siblings.{HaveEntered, HavePassed}
use Rattle.ot_race.specs.View.{deed_of, event_of, events_in}
use Rattle.ot_race.proofs.PlaceLemmas.{place_map, place_read}
use Rattle.ot_race.proofs.StandingLemmas.{not_touches, not_awaits, not_leaves}
use Rattle.ot_race.proofs.NoteLemmas.{siblings_entered, siblings_passed, siblings_same}
use Rattle.ot_race.proofs.order.note_siblings.Goals as goal

pub returns-in-Begins : goal.returns-in-Begins
returns-in-Begins c =
    let events = c.args.events.now in
    let es = events_in events in
    let n = c.args.at.number in
    let ends = c.args.at.ends.now in
    let r = c.index-events-at.result in
    let there = place_map event_of events n r (place_read events n r c.requires.there c.index-events-at.is) in
    let p = c.in-Begins.parent in
    let old = c.args.siblings.now in
    let new = c.enter.new.self in
    on_ok_weaker c.enter.result
    (λ e.
    siblings_entered es n p r.task c.in-Begins.decl.now (event_of r) ends old new there refl (ap deed_of c.in-Begins.is)
    (subst (λ uses. HaveEntered ends n p r.task uses old new) c.uses.ensures.uses e))
    c.enter.ensures

pub returns-in-Some : goal.returns-in-Some
returns-in-Some c =
    let events = c.args.events.now in
    let es = events_in events in
    let n = c.args.at.number in
    let ends = c.args.at.ends.now in
    let r = c.index-events-at.result in
    let there = place_map event_of events n r (place_read events n r c.requires.there c.index-events-at.is) in
    let old = c.args.siblings.now in
    let new = c.pass.new.self in
    on_ok_weaker c.pass.result
    (λ e.
    siblings_passed es n r.task c.in-Some.decl.now (event_of r) ends old new there refl
    (ap deed_of c.in-Awaits.is ∙ ap (λ w. s.Awaits (option_map (λ d. d.now) w)) c.in-Some.is)
    (subst (λ uses. HavePassed ends n r.task uses old new) c.uses-in-Some.ensures.uses e))
    c.pass.ensures

pub returns-in-None : goal.returns-in-None
returns-in-None c =
    let events = c.args.events.now in
    let es = events_in events in
    let n = c.args.at.number in
    let ends = c.args.at.ends.now in
    let r = c.index-events-at.result in
    let there = place_map event_of events n r (place_read events n r c.requires.there c.index-events-at.is) in
    siblings_same es n (event_of r) ends c.args.siblings.now there
    (λ p us. not_awaits (deed_of r.deed) None p us (ap deed_of c.in-Awaits.is ∙ ap (λ w. s.Awaits (option_map (λ d. d.now) w)) c.in-None.is))

pub returns-in-Touches : goal.returns-in-Touches
returns-in-Touches c =
    let events = c.args.events.now in
    let es = events_in events in
    let n = c.args.at.number in
    let ends = c.args.at.ends.now in
    let r = c.index-events-at.result in
    let there = place_map event_of events n r (place_read events n r c.requires.there c.index-events-at.is) in
    let free : (p : ℕ) (us : List Use) → deed_of r.deed ≢ s.Begins p us = λ p us. elim c.in-Touches.is [
      | inl a ↦ not_touches (deed_of r.deed) p us (ap deed_of a)
      | inr l ↦ not_leaves (deed_of r.deed) l.0 p us (ap deed_of l.1)
    ] in
    siblings_same es n (event_of r) ends c.args.siblings.now there free
