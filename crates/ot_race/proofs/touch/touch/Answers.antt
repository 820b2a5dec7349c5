use Rattle.std.proofs.Common.{◌≡◌, ◌∙◌, [], ◌∷◌, ◌++◌, ◌+◌, take, get_or, sym, subst}
use Rattle.std.specs.Prelude.{All, Contains}
use Rattle.std.proofs.lemmas.List.{take_all, take_more}
use Rattle.std.proofs.lemmas.List.Elements.{All-more, Contains-get_or}
use Rattle.ot_model.specs.declared.stmt.Mode.TheVariants.{Reads}
use Rattle.ot_model.specs.declared.stmt.Use.{Use}
use Rattle.ot_race.specs.Histories.{AreHistories, AllBehind}
use Rattle.ot_race.specs.Races.{IsUsed}
use Rattle.ot_race.specs.View.{event_of, events_in}
use Rattle.ot_race.proofs.PlaceLemmas.{place_map, place_read}
use Rattle.ot_race.proofs.HistoryLemmas.{those_had, histories_more, behind_more, race_found, no_race, next_histories}
use Rattle.ot_race.proofs.touch.touch.Goals as goal

abbrev some_use : Use
some_use = record { cell = record { array = 0; index = 0 }; mode = Reads }

pub racing-requires : goal.racing-requires
racing-requires c =
    let uses = c.as_slice-uses.result.now in
    let i = c.loop-used.used-index in
    those_had (events_in c.args.events.now) c.args.number (take i uses) (get_or uses i some_use) c.loop-used.histories.rows.items c.args.known.now
    c.loop-used.invariant.histories c.requires.known

pub loop-used-preserved : goal.loop-used-preserved
loop-used-preserved c =
    let es = events_in c.args.events.now in
    let n = c.args.number in
    let known = c.args.known.now in
    let uses = c.as_slice-uses.result.now in
    let i = c.loop-used.used-index in
    let u = get_or uses i some_use in
    let old = c.loop-used.histories.rows.items in
    let new = c.add.new.self.rows.items in
    let h = c.loop-used.invariant in
    let added = c.in_ok-add.ensures in
    let more : take (i + 1) uses ≡ take i uses ++ u ∷ [] = take_more uses i some_use c.loop-used-test.true in
    record {
      histories = subst (λ us. AreHistories es n us new) (sym more)
          (histories_more es n (take i uses) u old new known h.histories c.requires.known c.in_default.ensures added.there added.others);
      behind = All-more (AllBehind es n known) uses i some_use c.loop-used-test.true h.behind
          (behind_more es n (take i uses) u old known h.histories c.requires.known c.in_default.ensures);
    }

pub returns-in-Some-clause-races : goal.returns-in-Some-clause-races
returns-in-Some-clause-races c =
    let es = events_in c.args.events.now in
    let n = c.args.number in
    let r = c.index-events-number.result in
    let uses = c.as_slice-uses.result.now in
    let i = c.loop-used.used-index in
    let u = get_or uses i some_use in
    let used : IsUsed es u.cell u.mode n = record {
      it = event_of r;
      there = place_map event_of c.args.events.now n r (place_read c.args.events.now n r c.requires.there c.index-events-number.is);
      uses = subst (λ us. Contains us u) c.as_slice-uses.ensures.value (Contains-get_or uses i some_use c.loop-used-test.true);
    } in
    race_found es n c.in-Some.earlier (take i uses) u c.loop-used.histories.rows.items c.args.known.now c.loop-used.invariant.histories c.requires.known
    c.in-Some.ensures.0 c.in-Some.ensures.1 used

pub returns-clause-races : goal.returns-clause-races
returns-clause-races c =
    let es = events_in c.args.events.now in
    let n = c.args.number in
    let r = c.index-events-number.result in
    let uses = c.as_slice-uses.result.now in
    let all : take c.loop-used.used-index uses ≡ r.uses.items = take_all c.loop-used.used-index uses c.loop-used-test.false ∙ c.as_slice-uses.ensures.value in
    no_race es n (event_of r) c.args.known.now
    (place_map event_of c.args.events.now n r (place_read c.args.events.now n r c.requires.there c.index-events-number.is)) c.requires.known
    (subst (All (AllBehind es n c.args.known.now)) all c.loop-used.invariant.behind)

pub returns-clause-histories : goal.returns-clause-histories
returns-clause-histories c = λ none.
    let es = events_in c.args.events.now in
    let n = c.args.number in
    let r = c.index-events-number.result in
    let uses = c.as_slice-uses.result.now in
    let all : take c.loop-used.used-index uses ≡ r.uses.items = take_all c.loop-used.used-index uses c.loop-used-test.false ∙ c.as_slice-uses.ensures.value in
    next_histories es n (event_of r) c.loop-used.histories.rows.items
    (place_map event_of c.args.events.now n r (place_read c.args.events.now n r c.requires.there c.index-events-number.is))
    (subst (λ us. AreHistories es n us c.loop-used.histories.rows.items) all c.loop-used.invariant.histories)
