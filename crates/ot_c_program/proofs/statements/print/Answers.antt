use Rattle.std.proofs.lemmas.Result.{err_from_is_err_and}
use Rattle.ot_c_expressions.specs.Tree.{expr_of}
use Rattle.ot_c_statements.specs.Tree.{exprs_of}
use Rattle.ot_c_lines.specs.Lines.{lines_of}
use Rattle.ot_c_program.specs.Statements.{read_step, print}
use Rattle.ot_c_arrays.proofs.EachLemmas.{each_more, each_fails, each_last}
use Rattle.ot_c_program.proofs.statements.print.Goals as goal

pub returns-in_err-lines : goal.returns-in_err-lines
returns-in_err-lines c =
    let l = c.loop-expr in
    let p = err_from_is_err_and c.from_residual.result c.from_residual.ensures.1 in
    rw (p.1, p.2) (each_fails (read_step c.args.scope.now c.args.left) expr_of c.args.exprs.now l.expr-index c.expr-item.result (lines_of l.lines) (print c.args.scope.now c.args.left (exprs_of c.args.exprs.now)) c.in_err-lines.field-0.0 c.loop-expr-test.true c.expr-item.is l.invariant c.in_err-lines.ensures)

pub loop-expr-preserved : goal.loop-expr-preserved
loop-expr-preserved c =
    let l = c.loop-expr in
    each_more (read_step c.args.scope.now c.args.left) expr_of c.args.exprs.now l.expr-index c.expr-item.result (lines_of l.lines) (lines_of c.in_ok-lines.lines) (print c.args.scope.now c.args.left (exprs_of c.args.exprs.now)) c.loop-expr-test.true c.expr-item.is l.invariant c.in_ok-lines.ensures

pub returns : goal.returns
returns c =
    let l = c.loop-expr in
    each_last (read_step c.args.scope.now c.args.left) expr_of c.args.exprs.now l.expr-index (lines_of l.lines) (print c.args.scope.now c.args.left (exprs_of c.args.exprs.now)) c.loop-expr-test.false l.invariant
