use Rattle.std.proofs.Common.{◌∙◌, ◌+◌, sym, drop}
use Rattle.ot_model.specs.View.{stmt_of, stmts_of}
use Rattle.ot_check.proofs.Cited.{rest_is}
use Rattle.ot_race_order.proofs.AlikeLemmas.{past, here}
use Rattle.ot_race_order.proofs.alike.+folding.Goals as goal

pub folds_in-loop-stmt-preserved : goal.folds_in-loop-stmt-preserved
folds_in-loop-stmt-preserved t c =
    let b = c.args.body.now.items in
    let i = c.loop-stmt.stmt-index in
    let rest = rest_is c.deref-stmt-items.result.now b i c.stmt-item.result c.deref-stmt-items.ensures.value c.loop-stmt-test.true c.stmt-item.is in
    past (stmt_of c.stmt-item.result) (stmts_of (drop (i + 1) b)) (stmts_of (drop i b)) (stmts_of b) rest
    (sym c.folds_in_one.ensures ∙ c.if-folds_in_one.false) c.loop-stmt.invariant

pub folds_in-returns-then-folds_in_one : goal.folds_in-returns-then-folds_in_one
folds_in-returns-then-folds_in_one t c =
    let b = c.args.body.now.items in
    let i = c.loop-stmt.stmt-index in
    let rest = rest_is c.deref-stmt-items.result.now b i c.stmt-item.result c.deref-stmt-items.ensures.value c.loop-stmt-test.true c.stmt-item.is in
    here (stmt_of c.stmt-item.result) (stmts_of (drop (i + 1) b)) (stmts_of (drop i b)) (stmts_of b) rest
    (sym c.folds_in_one.ensures ∙ c.if-folds_in_one.true) c.loop-stmt.invariant
