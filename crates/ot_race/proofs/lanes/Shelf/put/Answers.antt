use Rattle.std.proofs.Common.{◌∙◌}
use Rattle.std.proofs.lemmas.Result.{on_ok_weaker}
use Rattle.ot_race.proofs.PlaceLemmas.{place_read}
use Rattle.ot_race.proofs.LaneLemmas.{lane_there, lane_changed}
use Rattle.ot_race.proofs.lanes.Shelf.put.Goals as goal

pub returns : goal.returns
returns c =
    let lanes = c.reach.new.self.lanes.items in
    let lane = c.index_mut.result.now in
    let there = c.in_ok-reach.ensures.there in
    let at = place_read lanes c.args.index lane there c.index_mut.ensures.value in
    on_ok_weaker c.put.result
    (λ e. (
      λ m. lane_there lanes c.args.index c.put.new.self c.args.parent m there ∙ e.0 m,
      λ i p m away. lane_changed lanes c.args.index lane c.put.new.self c.args.parent at there e.1 i p m away ∙ c.in_ok-reach.ensures.same i p m,
    ))
    c.put.ensures
