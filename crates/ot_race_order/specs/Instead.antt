-- What C has in place of a declaration: for this crate alone.
use Rattle.std.specs.Prelude.{if◌then◌else◌, List, Option, Some, None}
use Rattle.ot_model.specs.declared.stmt.Use.{Use}
use Rattle.ot_race.specs.Events.{Deed, Touches, Begins, Awaits, Leaves}
use Rattle.ot_race_order.specs.Orders.{depend_of, has_fold}

-- what an event declares in C, where that isn't what it declares in the language
abbrev pub instead : Deed → Option (List Use)
instead Touches = None
instead (Begins parent wants) = if has_fold wants then Some (depend_of wants) else None
instead (Awaits w) = None
instead (Leaves count) = None
