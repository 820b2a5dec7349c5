use Rattle.std.proofs.lemmas.Result.{err_from_is_err_and}
use Rattle.ot_c_expressions.specs.Tree.{item_of, items_of, over_of}
use Rattle.ot_c_arrays.specs.Each.{each_or_refused}
use Rattle.ot_c_clauses.specs.Clauses.{head_of, claim_item}
use Rattle.ot_c_arrays.proofs.EachLemmas.{each_more, each_fails, each_last}
use Rattle.ot_c_clauses.proofs.clause.items.Goals as goal

pub returns-in_err-heading : goal.returns-in_err-heading
returns-in_err-heading c =
    let l = c.loop-item in
    let p = err_from_is_err_and c.from_residual.result c.from_residual.ensures.1 in
    rw (p.1, p.2) (each_fails (claim_item c.args.role (over_of c.args.over.now)) item_of c.args.items.now l.item-index c.item-item.result (head_of l.heading) (each_or_refused (claim_item c.args.role (over_of c.args.over.now)) (head_of c.args.heading) (items_of c.args.items.now)) c.in_err-heading.field-0.0 c.loop-item-test.true c.item-item.is l.invariant c.in_err-heading.ensures)

pub loop-item-preserved : goal.loop-item-preserved
loop-item-preserved c =
    let l = c.loop-item in
    each_more (claim_item c.args.role (over_of c.args.over.now)) item_of c.args.items.now l.item-index c.item-item.result (head_of l.heading) (head_of c.in_ok-heading.heading) (each_or_refused (claim_item c.args.role (over_of c.args.over.now)) (head_of c.args.heading) (items_of c.args.items.now)) c.loop-item-test.true c.item-item.is l.invariant c.in_ok-heading.ensures

pub returns : goal.returns
returns c =
    let l = c.loop-item in
    each_last (claim_item c.args.role (over_of c.args.over.now)) item_of c.args.items.now l.item-index (head_of l.heading) (each_or_refused (claim_item c.args.role (over_of c.args.over.now)) (head_of c.args.heading) (items_of c.args.items.now)) c.loop-item-test.false l.invariant
