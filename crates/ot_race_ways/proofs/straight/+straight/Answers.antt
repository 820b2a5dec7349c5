use Rattle.std.proofs.Common.{◌∙◌, ◌+◌, sym, drop}
use Rattle.ot_model.specs.View.{stmt_of, stmts_of}
use Rattle.ot_check.proofs.Cited.{rest_is}
use Rattle.ot_race_ways.proofs.StraightLemmas.{past, here}
use Rattle.ot_race_ways.proofs.straight.+straight.Goals as goal

pub is_straight-loop-stmt-preserved : goal.is_straight-loop-stmt-preserved
is_straight-loop-stmt-preserved t c =
    let b = c.args.body.now.items in
    let i = c.loop-stmt.stmt-index in
    let rest = rest_is c.deref-stmt-items.result.now b i c.stmt-item.result c.deref-stmt-items.ensures.value c.loop-stmt-test.true c.stmt-item.is in
    past (stmt_of c.stmt-item.result) (stmts_of (drop (i + 1) b)) (stmts_of (drop i b)) (stmts_of b) rest
    (sym c.is_straight_one.ensures ∙ c.if-not-is_straight_one.false) c.loop-stmt.invariant

pub is_straight-returns-then-not-is_straight_one : goal.is_straight-returns-then-not-is_straight_one
is_straight-returns-then-not-is_straight_one t c =
    let b = c.args.body.now.items in
    let i = c.loop-stmt.stmt-index in
    let rest = rest_is c.deref-stmt-items.result.now b i c.stmt-item.result c.deref-stmt-items.ensures.value c.loop-stmt-test.true c.stmt-item.is in
    here (stmt_of c.stmt-item.result) (stmts_of (drop (i + 1) b)) (stmts_of (drop i b)) (stmts_of b) rest
    (sym c.is_straight_one.ensures ∙ c.if-not-is_straight_one.true) c.loop-stmt.invariant
