-- Laws of runs and of their order.
use Rattle.std.specs.Prelude.{◌≡◌, ◌<◌, ℕ, List}
use Rattle.ot_model.specs.Tree.{Body}
use Rattle.ot_model.specs.Serial.{State, serial}
use Rattle.ot_race.specs.Events.{Event, this_way, after}
use Rattle.ot_race.specs.Order.{IsBefore}

-- the way of the run is that of the serial meaning
abbrev pub ThisWayIsSerial : Type 0
ThisWayIsSerial = (body : Body) (s : State) → after this_way body s ≡ serial body s

-- what is before an event in every schedule is before it in the serial run
abbrev pub BeforeIsEarlier : Type 0
BeforeIsEarlier = (es : List Event) (i j : ℕ) → IsBefore es i j → i < j
