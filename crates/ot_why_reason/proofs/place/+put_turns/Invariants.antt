use Rattle.std.proofs.Common.{length}
use Rattle.ot_why_reason.proofs.place.+put_turns.Given as goal

abbrev pub decreases-put_turns : goal.decreases-put_turns
decreases-put_turns l = length l.turns.now
