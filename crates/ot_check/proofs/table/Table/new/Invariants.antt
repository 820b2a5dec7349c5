use Rattle.std.proofs.Common.{◌≡◌, map, take}
use Rattle.ot_model.specs.Programs.{arrays_of}
use Rattle.ot_check.specs.walk.Rows.{rows_filled}
use Rattle.ot_check.proofs.table.Table.new.Given as goal

abbrev pub invariant-loop-array : goal.invariant-loop-array
invariant-loop-array l = map (λ row. row.items) l.rows.items ≡ rows_filled 0 (map (λ a. a.1) (arrays_of (take l.array-index l.arrays)))
