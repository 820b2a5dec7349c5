use Rattle.ot_model.specs.View.{stmt_of, stmts_of}
use Rattle.ot_check.proofs.Cited.{if_ok}
use Rattle.ot_check.specs.declared.fault.Offence.TheVariants.{EndsWithChildren}
use Rattle.ot_why_blame.proofs.FindLemmas.{nothing_there, left_no_task, left_none}
use Rattle.ot_why_blame.proofs.left.find_left.Goals as goal

pub returns-in_default-clause-all : goal.returns-in_default-clause-all
returns-in_default-clause-all c = λ none offends. nothing_there _ _ EndsWithChildren c.in_default.ensures.met offends

pub returns-in-None-clause-all : goal.returns-in-None-clause-all
returns-in-None-clause-all c = λ none offends.
    let here = c.in-Some.ensures.met in
    left_no_task (stmts_of c.args.program.now.body.items) c.args.place (stmt_of c.in-Some.stmt.now) here.0 here.1 c.in-None.ensures offends

pub returns-in-Some-body_of-clause-all : goal.returns-in-Some-body_of-clause-all
returns-in-Some-body_of-clause-all c =
    let here = c.in-Some.ensures.met in
    if_ok c.find_pending.result _ _
    (λ found all none offends.
    left_none (stmts_of c.args.program.now.body.items) c.args.place (stmt_of c.in-Some.stmt.now) here.0 (stmts_of c.in-Some-body_of.inside.now.items) here.1 c.in-Some-body_of.ensures (all none) offends)
    c.find_pending.ensures.all
