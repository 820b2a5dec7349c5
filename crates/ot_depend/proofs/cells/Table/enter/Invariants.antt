use Rattle.std.proofs.Common.{◌≡◌, take, All}
use Rattle.ot_depend.specs.Cells.{lines_of, AdmitsIn, enter_all}
use Rattle.ot_depend.proofs.cells.Table.enter.Given as goal

abbrev pub invariant-loop-spot : goal.invariant-loop-spot
invariant-loop-spot l = record {
  lines : lines_of l.self.rows.items ≡ enter_all l.child (lines_of l.initial.self.rows.items) (take l.spot-index l.spots);
  places : l.self.places ≡ l.initial.self.places;
  room : All (AdmitsIn l.child l.self) l.spots;
}
