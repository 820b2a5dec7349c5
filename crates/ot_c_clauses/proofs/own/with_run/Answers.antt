use Rattle.std.proofs.Common.{arith}
use Rattle.ot_c_clauses.proofs.OwnLemmas.{run_more}
use Rattle.ot_c_clauses.proofs.own.with_run.Goals as goal

pub loop-place-preserved : goal.loop-place-preserved
loop-place-preserved c =
    let l = c.loop-place in
    (omega (arith, l.invariant.0), omega (arith, c.loop-place-test.true), run_more c.args.array c.args.first l.place c.args.named l.more c.insert.new.self l.invariant.0 l.invariant.2 c.in_ok-insert.ensures.updates)
