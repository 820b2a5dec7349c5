use Rattle.std.proofs.Common.{◌≡◌, take, drop, arith}
use Rattle.std.proofs.lemmas.Grind.{common_steps}
use Rattle.serde_json.specs.View.{items_view}
use Rattle.ot_c_judge.specs.TextOrder.{count_all}
use Rattle.ot_c_judge.proofs.OrderLemmas.{told-body, told-no_body, told-statement, told-no_statement}
use Rattle.ot_c_judge.proofs.text_order.+told.Goals as goal

pub told_among-returns-then-index-items : goal.told_among-returns-then-index-items
told_among-returns-then-index-items t c = told-no_body c.args.told.now c.args.items.now c.args.index c.args.path.now c.if-index-items.true

pub told_among-returns : goal.told_among-returns
told_among-returns t c =
    let left : c.behind_all.result.now ≡ drop (count_all (items_view (take c.args.index c.args.items.now))) c.args.told.now = grind (arith, common_steps, c.behind_all.ensures) in
    told-body c.args.told.now c.behind_all.result.now c.args.items.now c.args.index c.index-items-index.result c.args.path.now c.told_at.result
    c.if-index-items.false c.index-items-index.is left c.told_at.ensures

pub told_inside-returns-then-index-items : goal.told_inside-returns-then-index-items
told_inside-returns-then-index-items t c = told-no_statement c.args.told.now c.args.items.now c.args.index c.args.path.now c.if-index-items.true

pub told_inside-returns : goal.told_inside-returns
told_inside-returns t c =
    told-statement c.args.told.now c.behind_before.result.now c.args.items.now c.args.index c.index-items-index.result c.args.path.now c.told_in.result
    c.if-index-items.false c.index-items-index.is c.behind_before.ensures c.told_in.ensures
