use Rattle.std.proofs.lemmas.Result.{err_from_is_err_and}
use Rattle.ot_c_expressions.specs.Tree.{clause_of, clauses_of}
use Rattle.ot_c_clauses.specs.Clauses.{joined_of, joining_step, all_joining}
use Rattle.ot_c_arrays.proofs.EachLemmas.{each_more, each_fails, each_last}
use Rattle.ot_c_clauses.proofs.clause.all_joining.Goals as goal

pub returns-in_err-joined : goal.returns-in_err-joined
returns-in_err-joined c =
    let l = c.loop-clause in
    let p = err_from_is_err_and c.from_residual.result c.from_residual.ensures.1 in
    rw (p.1, p.2) (each_fails joining_step clause_of c.args.clauses.now l.clause-index c.clause-item.result (joined_of l.joined) (all_joining c.args.scope (clauses_of c.args.clauses.now)) c.in_err-joined.field-0.0 c.loop-clause-test.true c.clause-item.is l.invariant c.in_err-joined.ensures)

pub loop-clause-preserved : goal.loop-clause-preserved
loop-clause-preserved c =
    let l = c.loop-clause in
    each_more joining_step clause_of c.args.clauses.now l.clause-index c.clause-item.result (joined_of l.joined) (joined_of c.in_ok-joined.joined) (all_joining c.args.scope (clauses_of c.args.clauses.now)) c.loop-clause-test.true c.clause-item.is l.invariant c.in_ok-joined.ensures

pub returns : goal.returns
returns c =
    let l = c.loop-clause in
    each_last joining_step clause_of c.args.clauses.now l.clause-index (joined_of l.joined) (all_joining c.args.scope (clauses_of c.args.clauses.now)) c.loop-clause-test.false l.invariant
