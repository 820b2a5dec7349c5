use Rattle.std.proofs.Common.{◌≡◌, ◌∙◌, [], ◌∷◌, ◌++◌, get_or, sym, ap}
use Rattle.std.proofs.lemmas.Result.{on_ok_weaker}
use Rattle.ot_race_all.specs.Found.{touches_of, row_of_touches}
use Rattle.ot_race.proofs.PlaceLemmas.{read_at, set_here, set_other, place_read}
use Rattle.ot_race_all.proofs.touched.Row.add.Goals as goal

pub returns-clause-there : goal.returns-clause-there
returns-clause-there c =
    let items = c.reach.new.self.cells.items in
    let i = c.args.index in
    let there = c.in_ok-reach.ensures.there in
    let cell = c.index_mut.result.now in
    let before : touches_of cell ≡ get_or (row_of_touches c.args.self.now) i [] =
    sym (read_at touches_of items i cell [] (place_read items i cell there c.index_mut.ensures.value)) ∙ c.in_ok-reach.ensures.same i in
    on_ok_weaker c.add.result (λ e. set_here touches_of items i c.add.new.self [] there ∙ e ∙ ap (λ ts. ts ++ c.args.touch ∷ []) before) c.add.ensures

pub returns-clause-others : goal.returns-clause-others
returns-clause-others c =
    let items = c.reach.new.self.cells.items in
    on_ok_weaker c.add.result
    (λ e j apart. set_other touches_of items c.args.index j c.add.new.self [] apart ∙ c.in_ok-reach.ensures.same j) c.add.ensures
