use Rattle.std.proofs.Common.{◌∙◌, ap, set}
use Rattle.std.specs.Prelude.{slice_get}
use Rattle.std.proofs.lemmas.Result.{on_ok_weaker}
use Rattle.ot_race.specs.Siblings.{seen_of_shelf}
use Rattle.ot_race.proofs.PlaceLemmas.{place_read}
use Rattle.ot_race.proofs.LaneLemmas.{shelf_there, shelf_changed}
use Rattle.ot_race.proofs.siblings.Siblings.put.Goals as goal

pub returns : goal.returns
returns c =
    let shelves = c.reach.new.self.shelves.items in
    let shelf = c.index_mut.result.now in
    let cell = c.args.cell in
    let there = c.in_ok-reach.ensures.there in
    let at = place_read shelves cell.array shelf there c.index_mut.ensures.value in
    on_ok_weaker c.put.result
    (λ e. record {
      here = λ u same.
          ap (λ d. seen_of_shelf (slice_get (set shelves cell.array c.put.new.self) d.array) d.index c.args.parent u.mode) same
          ∙ shelf_there shelves cell.array c.put.new.self cell.index c.args.parent u.mode there ∙ e.0 u.mode;
      others = λ p u away. shelf_changed shelves cell shelf c.put.new.self c.args.parent at there e.1 p u away ∙ c.in_ok-reach.ensures.same p u;
    })
    c.put.ensures
