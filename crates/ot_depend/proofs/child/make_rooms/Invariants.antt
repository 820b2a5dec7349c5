use Rattle.std.proofs.Common.{◌≡◌, take, All}
use Rattle.ot_depend.specs.Children.{kids_of, HasRoomAt}
use Rattle.ot_depend.proofs.child.make_rooms.Given as goal

abbrev pub invariant-loop-place : goal.invariant-loop-place
invariant-loop-place l = record {
  same : kids_of l.children.items ≡ kids_of l.initial.children.items;
  made : All (HasRoomAt l.children.items) (take l.place-index l.earlier);
}
