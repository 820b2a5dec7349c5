use Rattle.std.proofs.Common.{◌∙◌, sym, ap}
use Rattle.std.specs.Prelude.{slice_get}
use Rattle.std.proofs.lemmas.Result.{on_ok_weaker, IfOk-weaker}
use Rattle.ot_race.specs.Siblings.{seen_of_shelf}
use Rattle.ot_race.proofs.PlaceLemmas.{place_read}
use Rattle.ot_race.proofs.LaneLemmas.{shelf_changed}
use Rattle.ot_race.proofs.siblings.Siblings.take.Goals as goal

pub returns-clause-was : goal.returns-clause-was
returns-clause-was c =
    let shelves = c.reach.new.self.shelves.items in
    let shelf = c.index_mut.result.now in
    let cell = c.args.cell in
    let at = place_read shelves cell.array shelf c.in_ok-reach.ensures.there c.index_mut.ensures.value in
    IfOk-weaker c.take.result _ _
    (λ row e u same.
    sym (c.in_ok-reach.ensures.same c.args.parent u) ∙ ap (λ d. seen_of_shelf (slice_get shelves d.array) d.index c.args.parent u.mode) same
    ∙ ap (λ o. seen_of_shelf o cell.index c.args.parent u.mode) at ∙ e u.mode)
    c.take.ensures.was

pub returns-clause-others : goal.returns-clause-others
returns-clause-others c =
    let shelves = c.reach.new.self.shelves.items in
    let shelf = c.index_mut.result.now in
    let there = c.in_ok-reach.ensures.there in
    let at = place_read shelves c.args.cell.array shelf there c.index_mut.ensures.value in
    on_ok_weaker c.take.result
    (λ e p u away. shelf_changed shelves c.args.cell shelf c.take.new.self c.args.parent at there e p u away ∙ c.in_ok-reach.ensures.same p u) c.take.ensures.others
