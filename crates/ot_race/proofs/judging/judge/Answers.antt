use Rattle.std.proofs.Common.{◌<◌, ◌≤◌, get_or, length, map, subst, refl, inl, inr, arith}
use Rattle.std.proofs.lemmas.Bool.{cases_eq}
use Rattle.std.proofs.lemmas.List.{length-map}
use Rattle.std.specs.Prelude.{None}
use Rattle.ot_race.specs.Histories.{RacesWith}
use Rattle.ot_race.specs.Races.{IsRace}
use Rattle.ot_race.specs.View.{event_of, events_in}
use Rattle.ot_race.proofs.PlaceLemmas.{place_event, place_within}
use Rattle.ot_race.proofs.judging.judge.Goals as goal

pub returns-in-Some : goal.returns-in-Some
returns-in-Some c =
    let events = c.args.events.now in
    let es = events_in events in
    let n = c.loop-number.number in
    let earlier = c.in-Some.earlier in
    let race : IsRace es c.in-Some.cell earlier n = subst (RacesWith es n) c.in-Some.is c.in_ok-cell.ensures.races in
    let here : n < length events = omega (arith, c.loop-number-test.true) in
    let r = c.index-events-earlier.result in
    let q = c.index-events-number.result in
    record {
      i = earlier;
      j = n;
      race = race;
      earlier_at = record { it = event_of (get_or events earlier r); there = place_event event_of events earlier r (omega (arith, race.order, here)); placed = refl };
      later_at = record { it = event_of (get_or events n q); there = place_event event_of events n q here; placed = refl };
      first = c.loop-number.invariant.none;
    }

pub loop-number-preserved : goal.loop-number-preserved
loop-number-preserved c =
    let es = events_in c.args.events.now in
    let n = c.loop-number.number in
    let none : RacesWith es n None = subst (RacesWith es n) c.in_default.is c.in_ok-cell.ensures.races in
    record {
      stands = c.in_ok-take_in.ensures;
      histories = c.in_ok-cell.ensures.histories c.in_default.is;
      none = λ cell i j r. elim (cases_eq j n) [
        | inl same ↦ absurd (none cell i (subst (IsRace es cell i) same r))
        | inr apart ↦ let l : n ≤ j = c.loop-number.invariant.none cell i j r in omega (arith, l, apart)
      ];
    }

pub returns : goal.returns
returns c = λ cell i j r.
    let events = c.args.events.now in
    let l : c.loop-number.number ≤ j = c.loop-number.invariant.none cell i j r in
    let there : j < length (map event_of events) = place_within (events_in events) j r.second.it r.second.there in
    absurd (omega (arith, l, there, length-map events event_of, c.loop-number-test.false))
