-- The events that the code's stand for.
use Rattle.std.specs.Prelude.{List, map, option_map}
use Rattle.ot_race.specs.Events as s
use Rattle.ot_race.specs.declared.event.Event.{Event}
use Rattle.ot_race.specs.declared.event.Deed.{Deed}
use Rattle.ot_race.specs.declared.event.Deed.TheVariants as v

abbrev pub deed_of : Deed → s.Deed
deed_of v.Touches = s.Touches
deed_of (v.Begins parent decl) = s.Begins parent decl.now
deed_of (v.Awaits w) = s.Awaits (option_map (λ d. d.now) w)
deed_of (v.Leaves count) = s.Leaves count

abbrev pub event_of : Event → s.Event
event_of e = s.event e.task e.place (deed_of e.deed) e.uses.items

abbrev pub events_in : List Event → List s.Event
events_in es = map event_of es
