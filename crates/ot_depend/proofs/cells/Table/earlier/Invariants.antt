use Rattle.std.proofs.Common.{◌≡◌, take}
use Rattle.ot_depend.specs.Cells.{lines_of, found_all}
use Rattle.ot_depend.proofs.cells.Table.earlier.Given as goal

abbrev pub invariant-loop-spot : goal.invariant-loop-spot
invariant-loop-spot l = l.earlier.items ≡ found_all (lines_of l.self.rows.items) (take l.spot-index l.spots)
