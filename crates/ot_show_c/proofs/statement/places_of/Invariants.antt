use Rattle.std.proofs.Common.{◌≡◌, drop, map}
use Rattle.ot_show_c.specs.Statements.{cell_of_pair, put_all, each_once}
use Rattle.ot_show_c.proofs.statement.places_of.Given as goal

-- those that are left follow
abbrev pub invariant-loop-cell : goal.invariant-loop-cell
invariant-loop-cell l = put_all (map cell_of_pair l.places.keys) (drop l.cell-index l.cells) ≡ each_once l.cells
