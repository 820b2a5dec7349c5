-- The children that the code's records stand for.
use Rattle.std.specs.Prelude.{◌≡◌, ℕ, false, List, Some, map, slice_get}
use Rattle.std.specs.Arc.{arc_value}
use Rattle.ot_depend.specs.Kept.{Kid, HasRoom, Admits}
use Rattle.ot_depend.specs.declared.child.Child.{Child}

abbrev pub kid_of : Child → Kid
kid_of c = record { it = record { uses = arc_value c.decl; groups = c.groups.items; finished = c.finished }; waiting = c.waiting; waiters = c.waiters.items }

abbrev pub kids_of : List Child → List Kid
kids_of children = map kid_of children

-- one more child can wait for the one at this place, where that one has not finished
abbrev pub HasRoomAt : List Child → ℕ → Type 0
HasRoomAt children place = (c : Child) → slice_get children place ≡ Some c → c.finished ≡ false → HasRoom c.waiters

-- this child can be put to those that wait for the one at this place, where that one has not finished
abbrev pub AdmitsAt : ℕ → List Child → ℕ → Type 0
AdmitsAt child children place = (c : Child) → slice_get children place ≡ Some c → c.finished ≡ false → Admits child c.waiters
