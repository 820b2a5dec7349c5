use Rattle.std.proofs.Common.{◌≡◌, ◌+◌, take}
use Rattle.std.specs.List.{sum_by}
use Rattle.ot_core.specs.Toil.{full_hand}
use Rattle.ot_core.proofs.world.World.nth_full.Given as goal

abbrev pub invariant-loop-hand : goal.invariant-loop-hand
invariant-loop-hand l = l.left + sum_by full_hand (take l.hand l.self.hands) ≡ l.fn.n
