use Rattle.std.proofs.Common.{◌<◌}
use Rattle.test_pool.proofs.turns.run_all.Given as goal

abbrev pub invariant-loop-turn : goal.invariant-loop-turn
invariant-loop-turn g l = 0 < l.share.parts
