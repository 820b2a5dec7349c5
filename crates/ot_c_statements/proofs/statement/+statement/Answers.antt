use Rattle.std.proofs.Common.{◌∙◌, Bool, [], Ok, length, ap, sym}
use Rattle.std.proofs.lemmas.Result.{err_from_is_err_and}
use Rattle.ot_c_statements.specs.Tree.{list_of}
use Rattle.ot_c_words.specs.Reading.{steps}
use Rattle.ot_c_statements.specs.declared.fault.Fault.TheVariants.{TooLong}
use Rattle.ot_c_statements.specs.Statements.{statement_at, stmts_step}
use Rattle.ot_c_words.proofs.StepLemmas.{steps_more, steps_last, steps_out, steps_fails}
use Rattle.ot_c_statements.proofs.statement.+statement.Goals as goal

pub statements-returns-in_err-put : goal.statements-returns-in_err-put
statements-returns-in_err-put t c =
    let l = c.loop-turn in
    let p = err_from_is_err_and c.from_residual.result c.from_residual.ensures.1 in
    rw (p.1, p.2) (steps_fails TooLong (stmts_step (statement_at c.args.depth)) (length c.args.words.now) l._turn (list_of l.found.items) l.rest.now (steps TooLong (stmts_step (statement_at c.args.depth)) (length c.args.words.now) [] c.args.words.now) c.in_err-put.field-0.0 c.loop-turn-test.true l.invariant c.in_err-put.ensures)

pub statements-returns-then-not-more : goal.statements-returns-then-not-more
statements-returns-then-not-more t c =
    let l = c.loop-turn in
    let step = c.in_ok-put.ensures ∙ ap (λ (b : Bool). Ok (list_of c.in_ok-put.put.items, b, c.in_ok-put.behind.now)) c.if-not-more.true in
    sym l.invariant ∙ steps_last TooLong (stmts_step (statement_at c.args.depth)) (length c.args.words.now) l._turn (list_of l.found.items) (list_of c.in_ok-put.put.items) l.rest.now c.in_ok-put.behind.now c.loop-turn-test.true step

pub statements-loop-turn-preserved : goal.statements-loop-turn-preserved
statements-loop-turn-preserved t c =
    let l = c.loop-turn in
    let step = c.in_ok-put.ensures ∙ ap (λ (b : Bool). Ok (list_of c.in_ok-put.put.items, b, c.in_ok-put.behind.now)) c.if-not-more.false in
    steps_more TooLong (stmts_step (statement_at c.args.depth)) (length c.args.words.now) l._turn (list_of l.found.items) (list_of c.in_ok-put.put.items) l.rest.now c.in_ok-put.behind.now c.loop-turn-test.true step ∙ l.invariant

pub statements-returns : goal.statements-returns
statements-returns t c =
    let l = c.loop-turn in
    sym l.invariant ∙ steps_out TooLong (stmts_step (statement_at c.args.depth)) (length c.args.words.now) l._turn (list_of l.found.items) l.rest.now c.loop-turn-test.false
