use Rattle.std.proofs.lemmas.Result.{err_from_is_err_and}
use Rattle.ot_c_expressions.specs.Tree.{item_of, items_of}
use Rattle.ot_c_arrays.specs.Each.{each_or_refused}
use Rattle.ot_c_clauses.specs.Clauses.{joined_of, takes_part}
use Rattle.ot_c_arrays.proofs.EachLemmas.{each_more, each_fails, each_last}
use Rattle.ot_c_clauses.proofs.clause.joining.Goals as goal

pub returns-in_err-joined : goal.returns-in_err-joined
returns-in_err-joined c =
    let l = c.loop-item in
    let p = err_from_is_err_and c.from_residual.result c.from_residual.ensures.1 in
    rw (p.1, p.2) (each_fails (takes_part c.args.operation) item_of c.args.items.now l.item-index c.item-item.result (joined_of l.joined) (each_or_refused (takes_part c.args.operation) (joined_of c.args.joined) (items_of c.args.items.now)) c.in_err-joined.field-0.0 c.loop-item-test.true c.item-item.is l.invariant c.in_err-joined.ensures)

pub loop-item-preserved : goal.loop-item-preserved
loop-item-preserved c =
    let l = c.loop-item in
    each_more (takes_part c.args.operation) item_of c.args.items.now l.item-index c.item-item.result (joined_of l.joined) (joined_of c.in_ok-joined.joined) (each_or_refused (takes_part c.args.operation) (joined_of c.args.joined) (items_of c.args.items.now)) c.loop-item-test.true c.item-item.is l.invariant c.in_ok-joined.ensures

pub returns : goal.returns
returns c =
    let l = c.loop-item in
    each_last (takes_part c.args.operation) item_of c.args.items.now l.item-index (joined_of l.joined) (each_or_refused (takes_part c.args.operation) (joined_of c.args.joined) (items_of c.args.items.now)) c.loop-item-test.false l.invariant
