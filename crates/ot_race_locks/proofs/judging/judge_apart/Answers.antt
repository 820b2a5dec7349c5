use Rattle.std.proofs.Common.{◌<◌, ◌≤◌, get_or, length, map, refl, arith}
use Rattle.std.proofs.lemmas.List.{length-map}
use Rattle.ot_race.specs.View.{event_of, events_in}
use Rattle.ot_race.proofs.PlaceLemmas.{place_event, place_within}
use Rattle.ot_race_locks.specs.OpenRaces.{IsOpenRace}
use Rattle.ot_race_locks.proofs.OrderedLemmas.{open_late}
use Rattle.ot_race_locks.proofs.judging.judge_apart.Goals as goal

pub returns-in-Some : goal.returns-in-Some
returns-in-Some c =
    let events = c.args.events.now in
    let es = events_in events in
    let n = c.loop-number.number in
    let earlier = c.in-Some.earlier in
    let race : IsOpenRace es c.args.locks.now c.in-Some.cell earlier n = c.in-Some.ensures in
    let here : n < length events = c.loop-number-test.true in
    let l = race.race.order in
    let before : earlier < length events = omega (arith, l, here) in
    let r = c.index-events-earlier.result in
    let q = c.index-events-number.result in
    record {
      i = earlier;
      j = n;
      race = race;
      earlier_at = record { it = event_of (get_or events earlier r); there = place_event event_of events earlier r before; placed = refl };
      later_at = record { it = event_of (get_or events n q); there = place_event event_of events n q here; placed = refl };
      first = open_late es c.args.locks.now n c.loop-number.invariant.ordered;
    }

pub returns : goal.returns
returns c = λ cell i j r.
    let events = c.args.events.now in
    let es = events_in events in
    let l : c.loop-number.number ≤ j = open_late es c.args.locks.now c.loop-number.number c.loop-number.invariant.ordered cell i j r in
    let there : j < length (map event_of events) = place_within es j r.race.second.it r.race.second.there in
    absurd (omega (arith, l, there, length-map events event_of, c.loop-number-test.false))
