use Rattle.std.proofs.Common.{◌≡◌, ◌≤◌, take}
use Rattle.std.specs.List.{sum_by}
use Rattle.ot_core.specs.Toil.{free_hand}
use Rattle.ot_core.proofs.world.World.free_hands.Given as goal

abbrev pub invariant-loop-hand : goal.invariant-loop-hand
invariant-loop-hand l = (l.free ≡ sum_by free_hand (take l.hand l.self.hands)) × (l.free ≤ l.hand)
