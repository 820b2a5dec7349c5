use Rattle.std.proofs.Common.{◌≡◌, ◌∙◌, get_or, map, set, sym, subst}
use Rattle.std.proofs.lemmas.Result.{on_ok_weaker}
use Rattle.ot_race.specs.Histories.{phases_of, row_of, no_phases, IsTouched}
use Rattle.ot_race.proofs.PlaceLemmas.{read_at, set_here, set_other, place_read}
use Rattle.ot_race.proofs.histories.Row.add.Goals as goal

pub returns-clause-there : goal.returns-clause-there
returns-clause-there c =
    let items = c.reach.new.self.histories.items in
    let i = c.args.index in
    let there = c.in_ok-reach.ensures.there in
    let before : phases_of c.index_mut.result.now ≡ get_or (row_of c.args.self.now) i no_phases =
    sym (read_at phases_of items i c.index_mut.result.now no_phases (place_read items i c.index_mut.result.now there c.index_mut.ensures.value))
    ∙ c.in_ok-reach.ensures.same i in
    on_ok_weaker c.add.result
    (λ e.
    subst (λ ph. IsTouched ph c.args.mode c.args.event c.args.known.now (get_or (map phases_of (set items i c.add.new.self)) i no_phases)) before
    (subst (IsTouched (phases_of c.index_mut.result.now) c.args.mode c.args.event c.args.known.now)
    (sym (set_here phases_of items i c.add.new.self no_phases there)) e)) c.add.ensures

pub returns-clause-others : goal.returns-clause-others
returns-clause-others c =
    let items = c.reach.new.self.histories.items in
    on_ok_weaker c.add.result
    (λ e j apart. set_other phases_of items c.args.index j c.add.new.self no_phases apart ∙ c.in_ok-reach.ensures.same j) c.add.ensures
