use Rattle.std.proofs.Common.{◌≡◌, map, take, All}
use Rattle.ot_model.specs.declared.expr.Cell.{Cell}
use Rattle.ot_depend.specs.Cells.{entry_of, IsSound, IsPlaced, HasRoomIn}
use Rattle.ot_depend.proofs.cells.Table.spots.Given as goal

abbrev pub invariant-loop-one : goal.invariant-loop-one
invariant-loop-one l = record {
  sound : IsSound l.self;
  same : (cell : Cell) → entry_of l.self cell ≡ entry_of l.initial.self cell;
  uses : map (λ s. s.one) l.spots.items ≡ take l.one-index l.uses;
  placed : All (IsPlaced l.self) l.spots.items;
  made : All (HasRoomIn l.self) l.spots.items;
}
