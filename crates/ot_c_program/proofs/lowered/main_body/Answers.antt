use Rattle.std.proofs.lemmas.Result.{err_from_is_err_and}
use Rattle.ot_c_files.specs.Program.{main_of}
use Rattle.ot_c_arrays.specs.Arrays.{declared_view}
use Rattle.ot_c_program.specs.Statements.{source_of}
use Rattle.ot_c_program.specs.Files.{progress_of, main_body}
use Rattle.ot_c_program.proofs.MainLemmas.{main_more, main_fails, main_last}
use Rattle.ot_c_program.proofs.lowered.main_body.Goals as goal

pub returns-in_err-progress : goal.returns-in_err-progress
returns-in_err-progress c =
    let l = c.loop-number in
    let names = c.args.words.now.names.keys in
    let p = err_from_is_err_and c.from_residual.result c.from_residual.ensures.1 in
    rw (p.1, p.2) (main_fails names (source_of c.args.source.now) c.args.steps.now l.number c.index-steps-number.result (progress_of l.progress) (main_body names (source_of c.args.source.now) (declared_view c.args.declared) (main_of c.args.steps.now)) c.in_err-progress.field-0.0 c.loop-number-test.true c.index-steps-number.is l.invariant c.in_err-progress.ensures)

pub loop-number-preserved : goal.loop-number-preserved
loop-number-preserved c =
    let l = c.loop-number in
    let names = c.args.words.now.names.keys in
    main_more names (source_of c.args.source.now) c.args.steps.now l.number c.index-steps-number.result (progress_of l.progress) (progress_of c.in_ok-progress.progress) (main_body names (source_of c.args.source.now) (declared_view c.args.declared) (main_of c.args.steps.now)) c.loop-number-test.true c.index-steps-number.is l.invariant c.in_ok-progress.ensures

pub returns : goal.returns
returns c =
    let l = c.loop-number in
    let names = c.args.words.now.names.keys in
    main_last names (source_of c.args.source.now) c.args.steps.now l.number (progress_of l.progress) (main_body names (source_of c.args.source.now) (declared_view c.args.declared) (main_of c.args.steps.now)) c.loop-number-test.false l.invariant
