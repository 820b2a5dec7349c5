use Rattle.std.proofs.Common.{length}
use Rattle.std.proofs.lemmas.Result.{err_from_is_err_and}
use Rattle.ot_c_files.specs.Program.{top_of, tops_of}
use Rattle.ot_c_program.specs.Files.{before_of, top_step, tops}
use Rattle.ot_c_arrays.proofs.EachLemmas.{each_more, each_fails, each_last}
use Rattle.ot_c_program.proofs.lowered.tops.Goals as goal

pub returns-in_err-before : goal.returns-in_err-before
returns-in_err-before c =
    let l = c.loop-top in
    let w = c.args.words.now in
    let p = err_from_is_err_and c.from_residual-in_err-before.result c.from_residual-in_err-before.ensures.1 in
    rw (p.1, p.2) (each_fails (top_step w.names.keys (length w.starts.items)) top_of c.args.tops.now l.top-index c.top-item.result (before_of l.before) (tops c.args.loops w.names.keys (length w.starts.items) (tops_of c.args.tops.now)) c.in_err-before.field-0.0 c.loop-top-test.true c.top-item.is l.invariant c.in_err-before.ensures)

pub loop-top-preserved : goal.loop-top-preserved
loop-top-preserved c =
    let l = c.loop-top in
    let w = c.args.words.now in
    each_more (top_step w.names.keys (length w.starts.items)) top_of c.args.tops.now l.top-index c.top-item.result (before_of l.before) (before_of c.in_ok-before.before) (tops c.args.loops w.names.keys (length w.starts.items) (tops_of c.args.tops.now)) c.loop-top-test.true c.top-item.is l.invariant c.in_ok-before.ensures

pub returns : goal.returns
returns c =
    let l = c.loop-top in
    let w = c.args.words.now in
    each_last (top_step w.names.keys (length w.starts.items)) top_of c.args.tops.now l.top-index (before_of l.before) (tops c.args.loops w.names.keys (length w.starts.items) (tops_of c.args.tops.now)) c.loop-top-test.false l.invariant
