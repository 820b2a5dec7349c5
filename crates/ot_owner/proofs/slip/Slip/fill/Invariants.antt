use Rattle.std.proofs.Common.{◌≡◌, ◌≤◌, take, length}
use Rattle.std.specs.Prelude.{vec_capacity}
use Rattle.ot_owner.specs.Lending.{lent_from}
use Rattle.ot_owner.proofs.slip.Slip.fill.Given as goal

abbrev pub invariant-loop-used : goal.invariant-loop-used
invariant-loop-used l = (l.lent.items ≡ lent_from l.cells (take l.used-index l.used-items)) × (length l.used-items ≤ vec_capacity l.lent)
