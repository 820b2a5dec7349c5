use Rattle.std.proofs.Common.{take, refl, sym, ap, ◌∙◌, add-one, arith}
use Rattle.serde_json.specs.View.{items_view}
use Rattle.ot_program.proofs.Seen.{array_seen}
use Rattle.ot_c_judge.specs.TextOrder.{count_in, count_all, count_one}
use Rattle.ot_c_judge.proofs.OrderLemmas.{count-no_list, count-list, count-no_parts, count-parts, count-none, count-more, three_parts, four_parts, five_parts, other_parts, behind_if, behind_else, behind_both, behind_as}
use Rattle.ot_c_judge.proofs.text_order.+behind.Goals as goal

pub behind_all-loop-statement-init : goal.behind_all-loop-statement-init
behind_all-loop-statement-init t c = behind_as c.args.told.now c.args.told.now _ 0 count-none refl

pub behind_all-loop-statement-preserved : goal.behind_all-loop-statement-preserved
behind_all-loop-statement-preserved t c =
    let vs = c.args.items.now in
    let i = c.loop-statement.statement-index in
    behind_as c.args.told.now c.behind_one-left.result.now _ _
    (ap (λ k. count_all (items_view (take k vs))) (add-one i) ∙ count-more vs i c.statement-item.result c.loop-statement-test.true c.statement-item.is)
    (behind_both c.args.told.now c.loop-statement.left.now c.behind_one-left.result.now _ _ c.loop-statement.invariant c.behind_one-left.ensures)

pub behind_in-returns-in-Array : goal.behind_in-returns-in-Array
behind_in-returns-in-Array t c =
    behind_as c.args.told.now c.behind_all.result.now _ _ (ap count_in (array_seen _ _ _ c.in-Array.is c.deref.ensures.value) ∙ count-list c.deref.result.now) c.behind_all.ensures

pub behind_in-returns-in_default : goal.behind_in-returns-in_default
behind_in-returns-in_default t c = behind_as c.args.told.now c.args.told.now _ 0 (count-no_list c.args.body.now c.in_default.not-Array) refl

pub behind_inside-returns-then-items-lt3 : goal.behind_inside-returns-then-items-lt3
behind_inside-returns-then-items-lt3 t c =
    behind_as c.args.told.now c.args.told.now _ 0
    (other_parts c.args.items.now (λ e. omega (arith, e, c.if-items-lt3.true)) (λ e. omega (arith, e, c.if-items-lt3.true)) (λ e. omega (arith, e, c.if-items-lt3.true))) refl

pub behind_inside-returns-then-items-gt5 : goal.behind_inside-returns-then-items-gt5
behind_inside-returns-then-items-gt5 t c =
    behind_as c.args.told.now c.args.told.now _ 0
    (other_parts c.args.items.now (λ e. omega (arith, e, c.if-items-gt5.true)) (λ e. omega (arith, e, c.if-items-gt5.true)) (λ e. omega (arith, e, c.if-items-gt5.true))) refl

pub behind_inside-returns-then-has_body : goal.behind_inside-returns-then-has_body
behind_inside-returns-then-has_body t c =
    behind_as c.args.told.now c.behind_in.result.now _ _ (three_parts c.args.items.now c.tag-item.result c.body-item.result (omega arith) c.tag-item.is c.body-item.is)
    (behind_if c.args.told.now c.behind_in.result.now _ _ 0 (sym c.if-has_body.ensures) c.behind_in.ensures)

pub behind_inside-returns-else-has_body : goal.behind_inside-returns-else-has_body
behind_inside-returns-else-has_body t c =
    behind_as c.args.told.now c.args.told.now _ _ (three_parts c.args.items.now c.tag-item.result c.body-item.result (omega arith) c.tag-item.is c.body-item.is)
    (behind_else c.args.told.now c.args.told.now _ _ 0 (sym c.if-has_body.ensures) refl)

pub behind_inside-returns-then-is_word : goal.behind_inside-returns-then-is_word
behind_inside-returns-then-is_word t c =
    behind_as c.args.told.now c.behind_in-then-is_word.result.now _ _
    (four_parts c.args.items.now c.tag-item-then-items-lt5.result c.one-item.result c.two-item.result (omega arith) c.tag-item-then-items-lt5.is c.one-item.is c.two-item.is)
    (behind_if c.args.told.now c.behind_in-then-is_word.result.now _ _ _ (sym c.if-is_word.ensures)
    (behind_both c.args.told.now c.behind_in-told.result.now c.behind_in-then-is_word.result.now _ _ c.behind_in-told.ensures c.behind_in-then-is_word.ensures))

pub behind_inside-returns-then-is_word-2 : goal.behind_inside-returns-then-is_word-2
behind_inside-returns-then-is_word-2 t c =
    behind_as c.args.told.now c.behind_in-then-is_word-2.result.now _ _
    (four_parts c.args.items.now c.tag-item-then-items-lt5.result c.one-item.result c.two-item.result (omega arith) c.tag-item-then-items-lt5.is c.one-item.is c.two-item.is)
    (behind_else c.args.told.now c.behind_in-then-is_word-2.result.now _ _ _ (sym c.if-is_word.ensures)
    (behind_if c.args.told.now c.behind_in-then-is_word-2.result.now _ _ 0 (sym c.if-is_word-2.ensures) c.behind_in-then-is_word-2.ensures))

pub behind_inside-returns-else-is_word-2 : goal.behind_inside-returns-else-is_word-2
behind_inside-returns-else-is_word-2 t c =
    behind_as c.args.told.now c.args.told.now _ _
    (four_parts c.args.items.now c.tag-item-then-items-lt5.result c.one-item.result c.two-item.result (omega arith) c.tag-item-then-items-lt5.is c.one-item.is c.two-item.is)
    (behind_else c.args.told.now c.args.told.now _ _ _ (sym c.if-is_word.ensures)
    (behind_else c.args.told.now c.args.told.now _ _ 0 (sym c.if-is_word-2.ensures) refl))

pub behind_inside-returns-then-is_word-3 : goal.behind_inside-returns-then-is_word-3
behind_inside-returns-then-is_word-3 t c =
    behind_as c.args.told.now c.behind_in-then-is_word-3.result.now _ _
    (five_parts c.args.items.now c.tag-item-then-items-lt6.result c.body-item-then-items-lt6.result (omega arith) c.tag-item-then-items-lt6.is c.body-item-then-items-lt6.is)
    (behind_if c.args.told.now c.behind_in-then-is_word-3.result.now _ _ 0 (sym c.if-is_word-3.ensures) c.behind_in-then-is_word-3.ensures)

pub behind_inside-returns-else-is_word-3 : goal.behind_inside-returns-else-is_word-3
behind_inside-returns-else-is_word-3 t c =
    behind_as c.args.told.now c.args.told.now _ _
    (five_parts c.args.items.now c.tag-item-then-items-lt6.result c.body-item-then-items-lt6.result (omega arith) c.tag-item-then-items-lt6.is c.body-item-then-items-lt6.is)
    (behind_else c.args.told.now c.args.told.now _ _ 0 (sym c.if-is_word-3.ensures) refl)

pub behind_one-returns-in-Array : goal.behind_one-returns-in-Array
behind_one-returns-in-Array t c =
    behind_as c.args.told.now c.behind_inside.result.now _ _ (ap count_one (array_seen _ _ _ c.in-Array.is c.deref.ensures.value) ∙ count-parts c.deref.result.now)
    (behind_both c.args.told.now c.behind_own-told.result.now c.behind_inside.result.now _ _ c.behind_own-told.ensures c.behind_inside.ensures)

pub behind_one-returns-in_default : goal.behind_one-returns-in_default
behind_one-returns-in_default t c =
    behind_as c.args.told.now c.behind_own-told.result.now _ 1 (count-no_parts c.args.statement.now c.in_default.not-Array) c.behind_own-told.ensures
