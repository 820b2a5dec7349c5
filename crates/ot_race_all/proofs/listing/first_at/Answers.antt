use Rattle.std.proofs.Common.{◌≡◌, ◌<◌, ◌≤◌, get_or, length, map, sym, ap, ◌∙◌, inl, inr, arith}
use Rattle.std.specs.Prelude.{slice_get}
use Rattle.std.proofs.lemmas.Bool.{cases_eq}
use Rattle.std.proofs.lemmas.List.{length-map}
use Rattle.ot_race.specs.Events.{Event}
use Rattle.ot_race.specs.View.{event_of, events_in}
use Rattle.ot_race.proofs.OrderLemmas.{some_is}
use Rattle.ot_race.proofs.PlaceLemmas.{place_event, place_within}
use Rattle.ot_race_all.proofs.listing.first_at.Goals as goal

pub loop-number-preserved : goal.loop-number-preserved
loop-number-preserved c = λ j at.
    let events = c.args.events.now in
    let n = c.loop-number.number in
    let e = event_of (get_or events n c.index-events-number.result) in
    let there = place_event event_of events n c.index-events-number.result c.loop-number-test.true in
    let l : n ≤ j = c.loop-number.invariant j at in
    elim (cases_eq j n) [
      | inl same ↦
          let it : e ≡ at.it = some_is e at.it (sym there ∙ ap (λ k. slice_get (events_in events) k) (sym same) ∙ at.there) in
          absurd (c.if-events-number.false (ap (λ (e : Event). e.place) it ∙ at.placed))
      | inr apart ↦ omega (arith, l, apart)
    ]

pub returns : goal.returns
returns c = λ j at.
    let events = c.args.events.now in
    let l : c.loop-number.number ≤ j = c.loop-number.invariant j at in
    let there : j < length (map event_of events) = place_within (events_in events) j at.it at.there in
    absurd (omega (arith, l, there, length-map events event_of, c.loop-number-test.false))
