use Rattle.std.proofs.lemmas.Result.{err_from_is_err_and}
use Rattle.ot_c_statements.specs.Tree.{body_of, list_of}
use Rattle.ot_c_arrays.specs.Arrays.{declared_view}
use Rattle.ot_c_arrays.specs.Pointers.{pointers_from}
use Rattle.ot_c_arrays.proofs.PointerLemmas.{pointers_more, pointers_fails, pointers_last}
use Rattle.ot_c_arrays.proofs.pointer.+pointers.Goals as goal

pub pointers-returns-in_err-declared : goal.pointers-returns-in_err-declared
pointers-returns-in_err-declared t c =
    let l = c.loop-stmt in
    let names = c.args.names.now.keys in
    let p = err_from_is_err_and c.from_residual.result c.from_residual.ensures.1 in
    rw (p.1, p.2) (pointers_fails names c.args.stmts.now l.stmt-index c.stmt-item.result (declared_view l.declared) (pointers_from names (declared_view c.args.declared) (body_of (list_of c.args.stmts.now))) c.in_err-declared.field-0.0 c.loop-stmt-test.true c.stmt-item.is l.invariant c.in_err-declared.ensures)

pub pointers-loop-stmt-preserved : goal.pointers-loop-stmt-preserved
pointers-loop-stmt-preserved t c =
    let l = c.loop-stmt in
    let names = c.args.names.now.keys in
    pointers_more names c.args.stmts.now l.stmt-index c.stmt-item.result (declared_view l.declared) (declared_view c.in_ok-declared.declared) (pointers_from names (declared_view c.args.declared) (body_of (list_of c.args.stmts.now))) c.loop-stmt-test.true c.stmt-item.is l.invariant c.in_ok-declared.ensures

pub pointers-returns : goal.pointers-returns
pointers-returns t c =
    let l = c.loop-stmt in
    let names = c.args.names.now.keys in
    pointers_last names c.args.stmts.now l.stmt-index (declared_view l.declared) (pointers_from names (declared_view c.args.declared) (body_of (list_of c.args.stmts.now))) c.loop-stmt-test.false l.invariant
