use Rattle.std.proofs.Common.{◌≡◌, ◌∙◌, ◌+◌, ◌<◌, get_or, length, map, sym, ap, subst, inl, inr, arith}
use Rattle.std.proofs.lemmas.Bool.{cases_eq}
use Rattle.std.proofs.lemmas.List.{length-map}
use Rattle.ot_race.specs.Ends.{end_of}
use Rattle.ot_race.specs.Order.{IsBy}
use Rattle.ot_race.specs.View.{event_of, events_in}
use Rattle.ot_race.proofs.OrderLemmas.{by_is}
use Rattle.ot_race.proofs.PlaceLemmas.{place_event, place_within}
use Rattle.ot_race.proofs.ends.ends_of.Goals as goal

pub loop-number-preserved : goal.loop-number-preserved
loop-number-preserved c = λ task n h k by l.
    let events = c.args.events.now in
    let es = events_in events in
    let number = c.loop-number.number in
    let event = get_or events number c.index-events-number.result in
    let here : number < length events = omega (arith, c.loop-number-test.true) in
    let new = c.note_end.new.ends.items in
    let e = c.in_ok-note_end.ensures in
    elim (cases_eq task event.task) [
      | inl same ↦
          let end : end_of new task ≡ number + 1 = ap (end_of new) same ∙ e.there in
          omega (arith, end, h, l)
      | inr apart ↦ elim (cases_eq k number) [
        | inl last ↦
            absurd (apart (sym (by_is es task number (event_of event) (place_event event_of events number c.index-events-number.result here) (subst (IsBy es task) last by))))
        | inr before ↦
            let end : end_of new task ≡ end_of c.loop-number.ends.items task = e.others task apart in
            c.loop-number.invariant task n (omega (arith, end, h)) k by (omega (arith, l, before))
      ]
    ]

pub returns : goal.returns
returns c = λ task n h k by.
    let events = c.args.events.now in
    let there : k < length (map event_of events) = place_within (events_in events) k by.it by.there in
    c.loop-number.invariant task n h k by (omega (arith, there, length-map events event_of, c.loop-number-test.false))
