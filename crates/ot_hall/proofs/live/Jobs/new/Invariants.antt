use Rattle.std.proofs.Common.{◌≡◌, replicate, None}
use Rattle.ot_hall.proofs.live.Jobs.new.Given as goal

abbrev pub invariant-loop : goal.invariant-loop
invariant-loop l = l.keys.items ≡ replicate l.counter None
