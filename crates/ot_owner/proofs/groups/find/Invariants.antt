use Rattle.std.proofs.Common.{◌≡◌, drop}
use Rattle.ot_owner.specs.Kept.{summeds_of, holder_from}
use Rattle.ot_owner.proofs.groups.find.Given as goal

abbrev pub invariant-loop-i : goal.invariant-loop-i
invariant-loop-i l = holder_from 0 (summeds_of l.groups) l.cell ≡ holder_from l.i (summeds_of (drop l.i l.groups)) l.cell
