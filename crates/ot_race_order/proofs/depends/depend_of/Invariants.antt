use Rattle.std.proofs.Common.{◌≡◌, take}
use Rattle.ot_race_order.specs.Orders.{depend_of}
use Rattle.ot_race_order.proofs.depends.depend_of.Given as goal

abbrev pub invariant-loop-used : goal.invariant-loop-used
invariant-loop-used l = l.kept.items ≡ depend_of (take l.used-index l.used-items)
