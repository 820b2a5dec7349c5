use Rattle.std.proofs.Common.{◌≡◌, map, take}
use Rattle.ot_check.specs.walk.States.{rows_of}
use Rattle.ot_check.proofs.opened.Opened.copy.Given as goal

abbrev pub invariant-loop-set : goal.invariant-loop-set
invariant-loop-set l = map rows_of l.sets.items ≡ map rows_of (take l.set-index l.set-items)
