use Rattle.std.proofs.lemmas.Result.{err_from_is_err_and}
use Rattle.ot_c_expressions.specs.Tree.{clause_of, clauses_of}
use Rattle.ot_c_arrays.specs.Each.{each_or_refused}
use Rattle.ot_c_clauses.specs.Clauses.{head_of, claim_items}
use Rattle.ot_c_arrays.proofs.EachLemmas.{each_more, each_fails, each_last}
use Rattle.ot_c_clauses.proofs.clause.others.Goals as goal

pub returns-in_err-heading : goal.returns-in_err-heading
returns-in_err-heading c =
    let l = c.loop-clause in
    let p = err_from_is_err_and c.from_residual.result c.from_residual.ensures.1 in
    rw (p.1, p.2) (each_fails claim_items clause_of c.args.clauses.now l.clause-index c.clause-item.result (head_of l.heading) (each_or_refused claim_items (head_of c.args.heading) (clauses_of c.args.clauses.now)) c.in_err-heading.field-0.0 c.loop-clause-test.true c.clause-item.is l.invariant c.in_err-heading.ensures)

pub loop-clause-preserved : goal.loop-clause-preserved
loop-clause-preserved c =
    let l = c.loop-clause in
    each_more claim_items clause_of c.args.clauses.now l.clause-index c.clause-item.result (head_of l.heading) (head_of c.in_ok-heading.heading) (each_or_refused claim_items (head_of c.args.heading) (clauses_of c.args.clauses.now)) c.loop-clause-test.true c.clause-item.is l.invariant c.in_ok-heading.ensures

pub returns : goal.returns
returns c =
    let l = c.loop-clause in
    each_last claim_items clause_of c.args.clauses.now l.clause-index (head_of l.heading) (each_or_refused claim_items (head_of c.args.heading) (clauses_of c.args.clauses.now)) c.loop-clause-test.false l.invariant
