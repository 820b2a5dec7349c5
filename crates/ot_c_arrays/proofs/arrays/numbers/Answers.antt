use Rattle.std.proofs.lemmas.Result.{err_from_is_err_and}
use Rattle.ot_c_expressions.specs.Tree.{expr_of}
use Rattle.ot_c_statements.specs.Tree.{exprs_of}
use Rattle.ot_c_arrays.specs.Arrays.{number_step, numbers}
use Rattle.ot_c_arrays.proofs.EachLemmas.{each_more, each_fails, each_last}
use Rattle.ot_c_arrays.proofs.arrays.numbers.Goals as goal

pub returns-in_err-cells : goal.returns-in_err-cells
returns-in_err-cells c =
    let l = c.loop-expr in
    let p = err_from_is_err_and c.from_residual.result c.from_residual.ensures.1 in
    rw (p.1, p.2) (each_fails (number_step c.args.scope.now c.args.kind) expr_of c.args.exprs.now l.expr-index c.expr-item.result l.cells.items (numbers c.args.scope.now c.args.kind (exprs_of c.args.exprs.now)) c.in_err-cells.field-0.0 c.loop-expr-test.true c.expr-item.is l.invariant c.in_err-cells.ensures)

pub loop-expr-preserved : goal.loop-expr-preserved
loop-expr-preserved c =
    let l = c.loop-expr in
    each_more (number_step c.args.scope.now c.args.kind) expr_of c.args.exprs.now l.expr-index c.expr-item.result l.cells.items c.in_ok-cells.cells.items (numbers c.args.scope.now c.args.kind (exprs_of c.args.exprs.now)) c.loop-expr-test.true c.expr-item.is l.invariant c.in_ok-cells.ensures

pub returns : goal.returns
returns c =
    let l = c.loop-expr in
    each_last (number_step c.args.scope.now c.args.kind) expr_of c.args.exprs.now l.expr-index l.cells.items (numbers c.args.scope.now c.args.kind (exprs_of c.args.exprs.now)) c.loop-expr-test.false l.invariant
