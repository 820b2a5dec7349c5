use Rattle.std.proofs.Common.{refl, sym}
use Rattle.std.proofs.Common.{arith}
use Rattle.ot_c_judge.proofs.OrderLemmas.{first_of_four, first_of_others, behind_if, behind_else, behind_as}
use Rattle.ot_c_judge.proofs.text_order.behind_first.Goals as goal

pub returns-then-items-ne4 : goal.returns-then-items-ne4
returns-then-items-ne4 c =
    behind_as c.args.told.now c.args.told.now _ 0 (first_of_others c.args.items.now (λ e. omega (arith, e, c.if-items-ne4.true))) refl

pub returns-then-is_word : goal.returns-then-is_word
returns-then-is_word c =
    behind_as c.args.told.now c.behind_in.result.now _ _ (first_of_four c.args.items.now c.tag-item.result c.one-item.result (omega arith) c.tag-item.is c.one-item.is)
    (behind_if c.args.told.now c.behind_in.result.now _ _ 0 (sym c.if-is_word.ensures) c.behind_in.ensures)

pub returns-else-is_word : goal.returns-else-is_word
returns-else-is_word c =
    behind_as c.args.told.now c.args.told.now _ _ (first_of_four c.args.items.now c.tag-item.result c.one-item.result (omega arith) c.tag-item.is c.one-item.is)
    (behind_else c.args.told.now c.args.told.now _ _ 0 (sym c.if-is_word.ensures) refl)
