use Rattle.std.proofs.Common.{◌≡◌, ◌+◌, ◌∷◌, [], ◌++◌, ◌∙◌, take, get_or, sym, ap, subst}
use Rattle.std.proofs.lemmas.List.{take_all, take_more}
use Rattle.ot_model.specs.declared.stmt.Mode.TheVariants.{Reads}
use Rattle.ot_model.specs.declared.stmt.Use.{Use}
use Rattle.ot_race.specs.View.{event_of, events_in}
use Rattle.ot_race.proofs.PlaceLemmas.{place_map, place_read}
use Rattle.ot_race_all.specs.AllRaces.{touches_before}
use Rattle.ot_race_all.specs.Found.{AreTouches, touches_at}
use Rattle.ot_race_all.proofs.CountLemmas.{counts_more, counts_next}
use Rattle.ot_race_all.proofs.TouchLemmas.{touches_more, touches_next}
use Rattle.ot_race_all.proofs.compare.keep.Goals as goal

abbrev some_use : Use
some_use = record { cell = record { array = 0; index = 0 }; mode = Reads }

pub loop-used-preserved : goal.loop-used-preserved
loop-used-preserved c =
    let es = events_in c.args.events.now in
    let n = c.args.number in
    let uses = c.as_slice-uses.result.now in
    let k = c.loop-used.used-index in
    let u = get_or uses k some_use in
    let new = c.add.new.self.rows.items in
    let added = c.in_ok-add.ensures in
    let more : take (k + 1) uses ≡ take k uses ++ u ∷ [] = take_more uses k some_use c.loop-used-test.true in
    record {
      touches = subst (λ us. AreTouches es n us new) (sym more)
          (touches_more es n (take k uses) u c.loop-used.touched.rows.items new c.loop-used.invariant.touches added.there added.others);
      counts = λ d. counts_more uses k some_use (touches_at c.loop-used.touched.rows.items d) (touches_at new d) (record { mode = u.mode; number = n }) (touches_before es n d) d
          c.loop-used-test.true (λ same. ap (touches_at new) same ∙ added.there ∙ ap (λ e. touches_at c.loop-used.touched.rows.items e ++ (record { mode = u.mode; number = n }) ∷ []) (sym same)) (added.others d) (c.loop-used.invariant.counts d);
    }

pub returns-clause-touches : goal.returns-clause-touches
returns-clause-touches c =
    let es = events_in c.args.events.now in
    let n = c.args.number in
    let r = c.index-events-number.result in
    let uses = c.as_slice-uses.result.now in
    let rows = c.loop-used.touched.rows.items in
    let all : take c.loop-used.used-index uses ≡ r.uses.items = take_all c.loop-used.used-index uses c.loop-used-test.false ∙ c.as_slice-uses.ensures.value in
    touches_next es n (event_of r) rows
    (place_map event_of c.args.events.now n r (place_read c.args.events.now n r c.requires.there c.index-events-number.is))
    (subst (λ us. AreTouches es n us rows) all c.loop-used.invariant.touches)

pub returns-clause-counts : goal.returns-clause-counts
returns-clause-counts c = λ d.
    let es = events_in c.args.events.now in
    let n = c.args.number in
    let r = c.index-events-number.result in
    let uses = c.as_slice-uses.result.now in
    let all : take c.loop-used.used-index uses ≡ r.uses.items = take_all c.loop-used.used-index uses c.loop-used-test.false ∙ c.as_slice-uses.ensures.value in
    c.loop-used.invariant.counts d
    ∙ counts_next es n (event_of r) d (take c.loop-used.used-index uses)
    (place_map event_of c.args.events.now n r (place_read c.args.events.now n r c.requires.there c.index-events-number.is)) all
