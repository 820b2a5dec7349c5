use Rattle.ot_c_clauses.proofs.OwnLemmas.{times_more}
use Rattle.ot_c_clauses.proofs.own.times_of.Goals as goal

pub loop-own-preserved : goal.loop-own-preserved
loop-own-preserved c =
    times_more c.loop-own.times c.insert.new.self c.args.cells.now c.loop-own.own-index _ c.times_in-before.result c.loop-own-test.true c.loop-own.invariant c.times_in-before.ensures
    c.in_ok-insert.ensures.updates
