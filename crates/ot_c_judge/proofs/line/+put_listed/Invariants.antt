use Rattle.std.proofs.Common.{length}
use Rattle.ot_c_judge.proofs.line.+put_listed.Given as goal

-- each call goes along the turns
abbrev pub decreases-put_listed : goal.decreases-put_listed
decreases-put_listed l = length l.turns.now
