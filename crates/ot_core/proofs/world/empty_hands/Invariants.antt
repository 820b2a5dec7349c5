use Rattle.std.proofs.Common.{◌≡◌, replicate, None}
use Rattle.ot_core.proofs.world.empty_hands.Given as goal

abbrev pub invariant-loop : goal.invariant-loop
invariant-loop l = l.hands.items ≡ replicate l.counter None
