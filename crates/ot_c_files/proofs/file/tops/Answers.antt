use Rattle.std.proofs.Common.{◌∙◌, Bool, [], Ok, length, ap, sym}
use Rattle.std.proofs.lemmas.Result.{err_from_is_err_and}
use Rattle.ot_c_files.specs.Program.{tops_of}
use Rattle.ot_c_words.specs.Reading.{steps}
use Rattle.ot_c_statements.specs.declared.fault.Fault.TheVariants.{TooLong}
use Rattle.ot_c_files.specs.Files.{tops_step}
use Rattle.ot_c_words.proofs.StepLemmas.{steps_more, steps_last, steps_out, steps_fails}
use Rattle.ot_c_files.proofs.file.tops.Goals as goal

pub returns-in_err-put : goal.returns-in_err-put
returns-in_err-put c =
    let l = c.loop-turn in
    let p = err_from_is_err_and c.from_residual.result c.from_residual.ensures.1 in
    rw (p.1, p.2) (steps_fails TooLong tops_step (length c.args.words.now) l._turn (tops_of l.found.items) l.rest.now (steps TooLong tops_step (length c.args.words.now) [] c.args.words.now) c.in_err-put.field-0.0 c.loop-turn-test.true l.invariant c.in_err-put.ensures)

pub returns-then-not-more : goal.returns-then-not-more
returns-then-not-more c =
    let l = c.loop-turn in
    let step = c.in_ok-put.ensures ∙ ap (λ (b : Bool). Ok (tops_of c.in_ok-put.put.items, b, c.in_ok-put.behind.now)) c.if-not-more.true in
    sym l.invariant ∙ steps_last TooLong tops_step (length c.args.words.now) l._turn (tops_of l.found.items) (tops_of c.in_ok-put.put.items) l.rest.now c.in_ok-put.behind.now c.loop-turn-test.true step

pub loop-turn-preserved : goal.loop-turn-preserved
loop-turn-preserved c =
    let l = c.loop-turn in
    let step = c.in_ok-put.ensures ∙ ap (λ (b : Bool). Ok (tops_of c.in_ok-put.put.items, b, c.in_ok-put.behind.now)) c.if-not-more.false in
    steps_more TooLong tops_step (length c.args.words.now) l._turn (tops_of l.found.items) (tops_of c.in_ok-put.put.items) l.rest.now c.in_ok-put.behind.now c.loop-turn-test.true step ∙ l.invariant

pub returns : goal.returns
returns c =
    let l = c.loop-turn in
    sym l.invariant ∙ steps_out TooLong tops_step (length c.args.words.now) l._turn (tops_of l.found.items) l.rest.now c.loop-turn-test.false
