use Rattle.std.proofs.Common.{◌≡◌, take}
use Rattle.ot_owner.specs.Kept.{summeds_of}
use Rattle.ot_owner.specs.Worth.{worth_over}
use Rattle.ot_owner.proofs.groups.worth.Given as goal

abbrev pub invariant-loop-group : goal.invariant-loop-group
invariant-loop-group l = l.worth ≡ worth_over (summeds_of (take l.group-index l.groups)) l.cell l.stored
