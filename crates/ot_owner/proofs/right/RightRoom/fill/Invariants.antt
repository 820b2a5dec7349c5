use Rattle.std.proofs.Common.{◌≡◌, ◌≤◌, map, take, length}
use Rattle.std.specs.Prelude.{vec_capacity}
use Rattle.ot_owner.proofs.right.RightRoom.fill.Given as goal

abbrev pub invariant-loop-copy : goal.invariant-loop-copy
invariant-loop-copy l = (l.firsts.items ≡ map (λ c. c.first) (take l.copy-index l.lent)) × (length l.lent ≤ vec_capacity l.firsts)
