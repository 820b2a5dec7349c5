-- Laws of what orders tasks.
use Rattle.std.specs.Prelude.{◌≡◌, ℕ, true, false, List}
use Rattle.ot_model.specs.Tree.{Body}
use Rattle.ot_model.specs.declared.expr.Cell.{Cell}
use Rattle.ot_race_order.specs.Orders.{ordered_by, is_alike, folds_in}
use Rattle.ot_race_order.specs.declared.order.Order.{Order}
use Rattle.ot_race.specs.Events.{Way, events_of}
use Rattle.ot_race.specs.Races.{IsRace}

-- where no task declares a fold the events of each way are those of the language, whichever orders tasks
abbrev pub NoFoldIsSame : Type 0
NoFoldIsSame =
    (order : Order) (body : Body) → folds_in body ≡ false → (way : Way) (cells : List (List ℕ))
    → ordered_by order (events_of way body cells) ≡ events_of way body cells

-- where this orders tasks as the language does, what races on a way races in the language too
abbrev pub AlikeRacesInLanguage : Type 0
AlikeRacesInLanguage =
    (order : Order) (body : Body) → is_alike order body ≡ true → (way : Way) (cells : List (List ℕ)) (cell : Cell) (i j : ℕ)
    → IsRace (ordered_by order (events_of way body cells)) cell i j → IsRace (events_of way body cells) cell i j
