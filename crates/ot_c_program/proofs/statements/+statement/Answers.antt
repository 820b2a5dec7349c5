use Rattle.std.proofs.lemmas.Result.{err_from_is_err_and}
use Rattle.ot_c_statements.specs.Tree.{body_of, list_of}
use Rattle.ot_c_lines.specs.Lines.{lines_of}
use Rattle.ot_c_program.specs.Statements.{source_of, body}
use Rattle.ot_c_program.proofs.BodyLemmas.{body_more, body_fails, body_last}
use Rattle.ot_c_program.proofs.statements.+statement.Goals as goal

pub body-returns-in_err-lines : goal.body-returns-in_err-lines
body-returns-in_err-lines t c =
    let l = c.loop-stmt in
    let p = err_from_is_err_and c.from_residual.result c.from_residual.ensures.1 in
    rw (p.1, p.2) (body_fails (source_of c.args.source.now) c.args.scope.now c.args.stmts.now l.stmt-index c.stmt-item.result (lines_of l.lines) (body (source_of c.args.source.now) c.args.scope.now (body_of (list_of c.args.stmts.now))) c.in_err-lines.field-0.0 c.loop-stmt-test.true c.stmt-item.is l.invariant c.in_err-lines.ensures)

pub body-loop-stmt-preserved : goal.body-loop-stmt-preserved
body-loop-stmt-preserved t c =
    let l = c.loop-stmt in
    body_more (source_of c.args.source.now) c.args.scope.now c.args.stmts.now l.stmt-index c.stmt-item.result (lines_of l.lines) (lines_of c.in_ok-lines.lines) (body (source_of c.args.source.now) c.args.scope.now (body_of (list_of c.args.stmts.now))) c.loop-stmt-test.true c.stmt-item.is l.invariant c.in_ok-lines.ensures

pub body-returns : goal.body-returns
body-returns t c =
    let l = c.loop-stmt in
    body_last (source_of c.args.source.now) c.args.scope.now c.args.stmts.now l.stmt-index (lines_of l.lines) (body (source_of c.args.source.now) c.args.scope.now (body_of (list_of c.args.stmts.now))) c.loop-stmt-test.false l.invariant
