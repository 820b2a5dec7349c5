-- What a race is.
use Rattle.std.specs.Prelude.{◌≡◌, ◌<◌, ◌≤◌, ℕ, true, List, Option, Some, None, slice_get, Contains}
use Rattle.ot_model.specs.Cells.{conflicts}
use Rattle.ot_model.specs.declared.expr.Cell.{Cell}
use Rattle.ot_model.specs.declared.stmt.Mode.{Mode}
use Rattle.ot_check.specs.Offences.{use_as}
use Rattle.ot_race.specs.Events.{Event}
use Rattle.ot_race.specs.Order.{IsBefore}
use Rattle.ot_race.specs.declared.race.Race.{Race}

-- event i uses the cell in this mode
pub record IsUsed (es : List Event) (cell : Cell) (mode : Mode) (i : ℕ) : Type 0 where
  pub it : Event
  pub there : slice_get es i ≡ Some it
  pub uses : Contains it.uses (use_as mode cell)

-- events i and j race at a cell: they use it in modes that conflict, and neither is before the other (a later event of the
-- list is before no earlier one)
pub record IsRace (es : List Event) (cell : Cell) (i j : ℕ) : Type 0 where
  pub order : i < j
  pub one : Mode
  pub other : Mode
  pub first : IsUsed es cell one i
  pub second : IsUsed es cell other j
  pub conflict : conflicts one other ≡ true
  pub unordered : IsBefore es i j → ⊥

abbrev pub NothingRaces : List Event → Type 0
NothingRaces es = (cell : Cell) (i j : ℕ) → IsRace es cell i j → ⊥

-- event i is of the statement of this place
pub record IsAt (es : List Event) (place i : ℕ) : Type 0 where
  pub it : Event
  pub there : slice_get es i ≡ Some it
  pub placed : it.place ≡ place

-- the statements of these places race at the cell, and no event before the later one races with one before that
pub record IsFirstRace (es : List Event) (cell : Cell) (place later : ℕ) : Type 0 where
  pub i : ℕ
  pub j : ℕ
  pub race : IsRace es cell i j
  pub earlier_at : IsAt es place i
  pub later_at : IsAt es later j
  pub first : (c : Cell) (k l : ℕ) → IsRace es c k l → j ≤ l

-- what a judge of a list of events tells: the first race, or that nothing races
abbrev pub TellsFirst : List Event → Option Race → Type 0
TellsFirst es None = NothingRaces es
TellsFirst es (Some told) = IsFirstRace es told.cell told.place told.later
