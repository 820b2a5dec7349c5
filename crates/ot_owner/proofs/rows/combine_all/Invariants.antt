use Rattle.std.proofs.Common.{◌≡◌, take}
use Rattle.std.specs.Prelude.{option_map, position}
use Rattle.ot_model.specs.Cells.{cell_of, lengths}
use Rattle.ot_model.specs.declared.expr.Cell.{Cell}
use Rattle.ot_owner.specs.Owning.{copies_where, is_of}
use Rattle.ot_owner.specs.Kept.{rows_of}
use Rattle.ot_owner.specs.Worth.{combined_by}
use Rattle.ot_owner.proofs.rows.combine_all.Given as goal

abbrev pub invariant-loop-place : goal.invariant-loop-place
invariant-loop-place g l = record {
  combined : (cell : Cell) → cell_of l.cells cell ≡ option_map (λ stored. combined_by (g.M.Monoid.join_is l.monoid) stored (copies_where (rows_of l.rows) (position (is_of cell) (take l.place l.uses)))) (cell_of l.initial.cells cell);
  lengths : lengths l.cells ≡ lengths l.initial.cells;
}
