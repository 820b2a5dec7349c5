use Rattle.std.proofs.Common.{length}
use Rattle.ot_why_place.proofs.place.+value_at.Given as goal

-- each call goes along the path
abbrev pub decreases-value_at : goal.decreases-value_at
decreases-value_at l = length l.path.now
