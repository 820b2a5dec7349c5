use Rattle.std.proofs.Common.{◌<◌, get_or, length, refl, sym, ◌∙◌, inr, arith}
use Rattle.ot_race.specs.Races.{IsRace}
use Rattle.ot_race.specs.View.{event_of, events_in}
use Rattle.ot_race.specs.declared.race.Race.{Race}
use Rattle.ot_race.proofs.PlaceLemmas.{place_event}
use Rattle.ot_race_all.proofs.FoundLemmas.{found_race, race_told, by_false}
use Rattle.ot_race_all.proofs.compare.compare_touch.Goals as goal

pub returns-clause-found : goal.returns-clause-found
returns-clause-found c =
    let events = c.args.events.now in
    let es = events_in events in
    let n = c.args.number in
    let i = c.args.touch.number in
    let one = get_or events i c.index-events-touch.result in
    let two = get_or events n c.index-events-number.result in
    let r : Race = record { cell = c.args.used.cell; place = one.place; later = two.place } in
    let l = c.requires.touch.0 in
    let race : IsRace es c.args.used.cell i n = record {
      order = l;
      one = c.args.touch.mode;
      other = c.args.used.mode;
      first = c.requires.touch.1;
      second = c.requires.used;
      conflict = sym c.conflicts.ensures ∙ c.if-not-conflicts.false;
      unordered = λ b. by_false _ c.if-has.ensures ((c.requires.known i).1 (inr b));
    } in
    let m = c.requires.there in
    let k : i < length events = omega (arith, l, m) in
    found_race es n i c.args.found.now c.add.new.self r c.requires.found race
    (record { it = event_of one; there = place_event event_of events i c.index-events-touch.result k; placed = refl })
    (record { it = event_of two; there = place_event event_of events n c.index-events-number.result m; placed = refl })
    c.in_ok-add.ensures.all c.in_ok-add.ensures.pairs

pub returns-clause-told : goal.returns-clause-told
returns-clause-told c =
    let events = c.args.events.now in
    let es = events_in events in
    let n = c.args.number in
    let i = c.args.touch.number in
    let one = get_or events i c.index-events-touch.result in
    let two = get_or events n c.index-events-number.result in
    let r : Race = record { cell = c.args.used.cell; place = one.place; later = two.place } in
    let l = c.requires.touch.0 in
    let m = c.requires.there in
    let k : i < length events = omega (arith, l, m) in
    λ against apart.
    race_told es n i c.args.found.now c.add.new.self r
    (record { it = event_of one; there = place_event event_of events i c.index-events-touch.result k; placed = refl })
    (record { it = event_of two; there = place_event event_of events n c.index-events-number.result m; placed = refl })
    c.in_ok-add.ensures.all
