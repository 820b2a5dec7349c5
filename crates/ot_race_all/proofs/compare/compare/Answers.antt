use Rattle.std.proofs.Common.{◌≡◌, ◌<◌, ◌≤◌, ℕ, ◌+◌, ◌∙◌, length, take, get_or, sym, ap, subst}
use Rattle.std.specs.Prelude.{All, Contains}
use Rattle.std.specs.List.{sum_by}
use Rattle.std.proofs.lemmas.List.Sums.{sum_by_more, sum_by_more_le}
use Rattle.std.proofs.lemmas.List.{take_all}
use Rattle.std.proofs.lemmas.List.Elements.{All-more, Contains-get_or}
use Rattle.ot_model.specs.declared.stmt.Mode.TheVariants.{Reads}
use Rattle.ot_model.specs.declared.stmt.Use.{Use}
use Rattle.ot_race.specs.Races.{IsUsed}
use Rattle.ot_race.specs.View.{event_of, events_in}
use Rattle.ot_race.proofs.PlaceLemmas.{place_map, place_read}
use Rattle.ot_race_all.specs.AllRaces.{touches_before, pairs_with}
use Rattle.ot_race_all.specs.Found.{TouchTold, UseTold}
use Rattle.ot_race_all.specs.declared.touched.Touch.{Touch}
use Rattle.ot_race_all.proofs.CountLemmas.{left_next, left_few, pairs_here}
use Rattle.ot_race_all.proofs.FoundLemmas.{told_kept, found_next, all_told}
use Rattle.ot_race_all.proofs.TouchLemmas.{touches_early, use_told}
use Rattle.ot_race_all.proofs.compare.compare.Goals as goal

abbrev some_use : Use
some_use = record { cell = record { array = 0; index = 0 }; mode = Reads }

pub compare_use-requires-clause-used : goal.compare_use-requires-clause-used
compare_use-requires-clause-used c =
    let n = c.args.number in
    let r = c.index-events-number.result in
    let uses = c.as_slice-uses.result.now in
    record {
      it = event_of r;
      there = place_map event_of c.args.events.now n r (place_read c.args.events.now n r c.requires.there c.index-events-number.is);
      uses = subst (λ us. Contains us (get_or uses c.loop-used.used-index some_use)) c.as_slice-uses.ensures.value
          (Contains-get_or uses c.loop-used.used-index some_use c.loop-used-test.true);
    }

pub compare_use-requires-clause-touches : goal.compare_use-requires-clause-touches
compare_use-requires-clause-touches c =
    let es = events_in c.args.events.now in
    let n = c.args.number in
    let u = get_or c.as_slice-uses.result.now c.loop-used.used-index some_use in
    subst (All (λ (t : Touch). (t.number < n) × IsUsed es u.cell t.mode t.number)) (sym c.of-touches.ensures)
    (touches_early es n u.cell c.args.touched.now.rows.items c.requires.touches)

pub loop-used-preserved : goal.loop-used-preserved
loop-used-preserved c =
    let es = events_in c.args.events.now in
    let n = c.args.number in
    let uses = c.as_slice-uses.result.now in
    let k = c.loop-used.used-index in
    let u = get_or uses k some_use in
    let new = c.compare_use.new.found in
    let step = c.in_ok-compare_use.ensures in
    record {
      found = step.found;
      left = left_next c.args.left.now c.loop-used.left (length c.of-touches.result.now) (sum_by (λ (v : Use). touches_before es n v.cell) (take k uses)) _ (touches_before es n u.cell) c.loop-used.invariant.left
          (sum_by_more (λ (v : Use). touches_before es n v.cell) uses k some_use c.loop-used-test.true) (ap length c.of-touches.ensures ∙ c.requires.counts u.cell) c.if-left-count.false;
      told = All-more (UseTold es n new) uses k some_use c.loop-used-test.true
          (told_kept es n c.loop-used.found new (take k uses) step.kept c.loop-used.invariant.told)
          (use_told es n u c.args.touched.now.rows.items new c.requires.touches
          (subst (All (λ (t : Touch). TouchTold es n u new t.mode t.number)) c.of-touches.ensures step.told));
    }

pub returns-clause-found : goal.returns-clause-found
returns-clause-found c =
    let es = events_in c.args.events.now in
    let n = c.args.number in
    let r = c.index-events-number.result in
    let uses = c.as_slice-uses.result.now in
    let found = c.loop-used.found in
    let all : take c.loop-used.used-index uses ≡ r.uses.items = take_all c.loop-used.used-index uses c.loop-used-test.false ∙ c.as_slice-uses.ensures.value in
    found_next es n found c.loop-used.invariant.found
    (all_told es n (event_of r) found (place_map event_of c.args.events.now n r (place_read c.args.events.now n r c.requires.there c.index-events-number.is))
    (subst (All (UseTold es n found)) all c.loop-used.invariant.told))

pub returns-clause-left : goal.returns-clause-left
returns-clause-left c =
    let es = events_in c.args.events.now in
    let n = c.args.number in
    let r = c.index-events-number.result in
    let uses = c.as_slice-uses.result.now in
    let all : take c.loop-used.used-index uses ≡ r.uses.items = take_all c.loop-used.used-index uses c.loop-used-test.false ∙ c.as_slice-uses.ensures.value in
    c.loop-used.invariant.left
    ∙ ap (λ s. c.loop-used.left + s)
    (pairs_here es n (event_of r) (take c.loop-used.used-index uses)
    (place_map event_of c.args.events.now n r (place_read c.args.events.now n r c.requires.there c.index-events-number.is)) all)

pub returns-then-left-count-clause-left : goal.returns-then-left-count-clause-left
returns-then-left-count-clause-left c =
    let es = events_in c.args.events.now in
    let n = c.args.number in
    let r = c.index-events-number.result in
    let uses = c.as_slice-uses.result.now in
    let k = c.loop-used.used-index in
    let u = get_or uses k some_use in
    let before : Use → ℕ = λ (v : Use). touches_before es n v.cell in
    let there = place_map event_of c.args.events.now n r (place_read c.args.events.now n r c.requires.there c.index-events-number.is) in
    left_few c.args.left.now c.loop-used.left (length c.of-touches.result.now) (sum_by before (take k uses)) (before u) (pairs_with es n) c.loop-used.invariant.left
    (subst (λ all. sum_by before (take k uses) + before u ≤ all) (pairs_here es n (event_of r) uses there c.as_slice-uses.ensures.value)
    (sum_by_more_le before uses k some_use c.loop-used-test.true))
    (ap length c.of-touches.ensures ∙ c.requires.counts u.cell) c.if-left-count.true
