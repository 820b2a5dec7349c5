use Rattle.std.proofs.Common.{◌≡◌, take}
use Rattle.ot_owner.specs.Owning.{copies_at}
use Rattle.ot_owner.specs.Kept.{rows_of}
use Rattle.ot_owner.specs.Worth.{combined_by}
use Rattle.ot_owner.proofs.rows.total.Given as goal

abbrev pub invariant-loop-row : goal.invariant-loop-row
invariant-loop-row g l = l.total ≡ combined_by (g.M.Monoid.join_is l.monoid) l.stored (copies_at (rows_of (take l.row-index l.rows)) l.place)
