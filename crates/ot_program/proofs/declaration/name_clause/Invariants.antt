use Rattle.std.proofs.Common.{◌≡◌, ◌+◌}
use Rattle.std.specs.List.{fold}
use Rattle.std.specs.List.Sorted.{IsStrictlySortedBy}
use Rattle.std.specs.Map.{keys_of}
use Rattle.ot_program.specs.walk.Namings.{cell_order, before, name_cell, name_clause}
use Rattle.ot_program.proofs.CellLists.{cells_left}
use Rattle.ot_program.proofs.declaration.name_clause.Given as goal

-- what is named, with the cells that are left
abbrev pub invariant-loop-step : goal.invariant-loop-step
invariant-loop-step l = record {
  ordered : IsStrictlySortedBy cell_order (keys_of l.named.items);
  place : l.place ≡ before (l.array, l.start + l.step) l.named.items;
  rest : fold (name_cell l.clause.mode) l.named.items (cells_left l.clause.section l.step) ≡ name_clause l.initial.named.items l.clause;
}
