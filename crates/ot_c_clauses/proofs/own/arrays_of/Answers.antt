use Rattle.ot_c_clauses.proofs.OwnLemmas.{arrays_more}
use Rattle.ot_c_clauses.proofs.own.arrays_of.Goals as goal

pub loop-own-preserved : goal.loop-own-preserved
loop-own-preserved c =
    arrays_more c.loop-own.arrays c.insert.new.self c.args.cells.now c.loop-own.own-index _ c.loop-own-test.true c.loop-own.invariant c.in_ok-insert.ensures.updates
