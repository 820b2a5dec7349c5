use Rattle.std.proofs.Common.{◌≡◌, ◌++◌, length, map}
use Rattle.ot_show_c.specs.Statements.{cell_of_pair, each_once}
use Rattle.ot_show_c.proofs.statement.each_once.Given as goal

-- those that are left follow
abbrev pub invariant-loop-array : goal.invariant-loop-array
invariant-loop-array l = l.once.items ++ map cell_of_pair l.places.keys ≡ each_once l.cells

abbrev pub decreases-loop-array : goal.decreases-loop-array
decreases-loop-array l = length l.places.keys
