use Rattle.std.proofs.Common.{length}
use Rattle.ot_c_judge.proofs.line.+copy_turns.Given as goal

-- each call goes along the turns
abbrev pub decreases-copy_turns : goal.decreases-copy_turns
decreases-copy_turns l = length l.turns.now
