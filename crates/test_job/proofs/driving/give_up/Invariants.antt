use Rattle.std.proofs.Common.{length}
use Rattle.test_job.proofs.driving.give_up.Given as goal

-- each turn fails a piece
abbrev pub decreases-loop-piece : goal.decreases-loop-piece
decreases-loop-piece l = length l.out.items
