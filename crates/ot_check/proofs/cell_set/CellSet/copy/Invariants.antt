use Rattle.std.proofs.Common.{◌≡◌, map, take}
use Rattle.ot_sets.specs.Sets.{words_of}
use Rattle.ot_check.proofs.cell_set.CellSet.copy.Given as goal

abbrev pub invariant-loop-row : goal.invariant-loop-row
invariant-loop-row l = map words_of l.rows.items ≡ map words_of (take l.row-index l.row-items)
