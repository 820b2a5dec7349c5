use Rattle.std.proofs.Common.{◌≡◌, false, take}
use Rattle.std.specs.List.{list_any}
use Rattle.ot_check.specs.Offences.{exceeds}
use Rattle.ot_check.proofs.standing.Region.exceeds.Given as goal

abbrev pub invariant-loop-used : goal.invariant-loop-used
invariant-loop-used l = list_any (exceeds l.self.own) (take l.used-index l.used-items) ≡ false
