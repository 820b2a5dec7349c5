use Rattle.std.proofs.Common.{◌≡◌, false, take}
use Rattle.std.specs.List.{list_any}
use Rattle.ot_check.specs.Offences.{misfits}
use Rattle.ot_check.specs.walk.States.{is_open}
use Rattle.ot_check.proofs.standing.Region.misfits.Given as goal

abbrev pub invariant-loop-used : goal.invariant-loop-used
invariant-loop-used l = list_any (misfits l.self.own (is_open l.self.opened)) (take l.used-index l.used-items) ≡ false
