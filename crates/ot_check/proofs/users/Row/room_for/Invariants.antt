use Rattle.std.proofs.Common.{◌≤◌, length}
use Rattle.ot_check.proofs.users.Row.room_for.Given as goal

abbrev pub invariant-loop-at : goal.invariant-loop-at
invariant-loop-at l = l.at ≤ length l.self.earlier.items

abbrev pub decreases-loop-at : goal.decreases-loop-at
decreases-loop-at l = l.at
