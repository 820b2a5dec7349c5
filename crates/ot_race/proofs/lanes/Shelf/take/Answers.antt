use Rattle.std.proofs.Common.{◌∙◌, sym, ap}
use Rattle.ot_race.specs.Siblings.{seen_of_lane}
use Rattle.ot_race.proofs.PlaceLemmas.{place_read}
use Rattle.ot_race.proofs.LaneLemmas.{lane_changed}
use Rattle.ot_race.proofs.lanes.Shelf.take.Goals as goal

pub returns-clause-was : goal.returns-clause-was
returns-clause-was c = λ m.
    let lanes = c.reach.new.self.lanes.items in
    let lane = c.index_mut.result.now in
    let at = place_read lanes c.args.index lane c.in_ok-reach.ensures.there c.index_mut.ensures.value in
    sym (c.in_ok-reach.ensures.same c.args.index c.args.parent m) ∙ ap (λ o. seen_of_lane o c.args.parent m) at ∙ c.take.ensures.was m

pub returns-clause-others : goal.returns-clause-others
returns-clause-others c = λ i p m away.
    let lanes = c.reach.new.self.lanes.items in
    let lane = c.index_mut.result.now in
    let there = c.in_ok-reach.ensures.there in
    let at = place_read lanes c.args.index lane there c.index_mut.ensures.value in
    lane_changed lanes c.args.index lane c.take.new.self c.args.parent at there c.take.ensures.others i p m away ∙ c.in_ok-reach.ensures.same i p m
