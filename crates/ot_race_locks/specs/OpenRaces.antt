-- Races of events that hold locks: touches under a common lock exclude each other, and race no more.
use Rattle.std.specs.Prelude.{◌≡◌, ◌==◌, ◌<◌, ◌≤◌, ℕ, Bool, false, List, [], length, map, get_or, All, Some, slice_get}
use Rattle.std.specs.List.{list_any}
use Rattle.ot_model.specs.declared.expr.Cell.{Cell}
use Rattle.ot_model.specs.declared.stmt.Mode.{Mode}
use Rattle.ot_race.specs.Events.{Event}
use Rattle.ot_race.specs.Races.{IsUsed, IsRace, IsAt}
use Rattle.ot_race_locks.specs.declared.locks.Locks.{Locks}
use Rattle.ot_race_locks.specs.declared.apart.Apart.{Apart}
use Rattle.ot_race_locks.specs.declared.apart.Apart.TheVariants.{RacesNowhere, Races, TooMany}

-- ---- locks

-- the set of locks that an event holds, by its number
abbrev pub set_at : Locks → ℕ → ℕ
set_at locks i = get_or locks.held.now i 0

-- the locks of a set
abbrev pub locks_in : Locks → ℕ → List ℕ
locks_in locks set = get_or (map (λ s. s.items) locks.sets.now) set []

-- the locks that an event holds
abbrev pub locks_at : Locks → ℕ → List ℕ
locks_at locks i = locks_in locks (set_at locks i)

-- whether two lists of locks have one in common
abbrev pub share : List ℕ → List ℕ → Bool
share one two = list_any (λ a. list_any (λ b. b == a) two) one

-- ---- open races

-- events i and j race at a cell, and hold no lock in common
pub record IsOpenRace (es : List Event) (locks : Locks) (cell : Cell) (i j : ℕ) : Type 0 where
  pub race : IsRace es cell i j
  pub apart : share (locks_at locks i) (locks_at locks j) ≡ false

-- the statements of these places race openly at the cell, and no event before the later one does so with one before that
pub record IsFirstOpenRace (es : List Event) (locks : Locks) (cell : Cell) (place later : ℕ) : Type 0 where
  pub i : ℕ
  pub j : ℕ
  pub race : IsOpenRace es locks cell i j
  pub earlier_at : IsAt es place i
  pub later_at : IsAt es later j
  pub first : (c : Cell) (k l : ℕ) → IsOpenRace es locks c k l → j ≤ l

-- ---- kinds of touches

-- the set of locks that is held, and the mode
pub record Kind : Type 0 where
  pub set : ℕ
  pub mode : Mode

-- an event touches the cell so
pub record IsThere (es : List Event) (locks : Locks) (cell : Cell) (kind : Kind) : Type 0 where
  pub i : ℕ
  pub used : IsUsed es cell kind.mode i
  pub set_is : set_at locks i ≡ kind.set

abbrev pub IsDistinct : List Kind → Type 0
IsDistinct kinds = (a b : ℕ) (kind : Kind) → slice_get kinds a ≡ Some kind → slice_get kinds b ≡ Some kind → a ≡ b

-- a cell is touched in more than 64 kinds
pub record HasMany (es : List Event) (locks : Locks) (cell : Cell) : Type 0 where
  pub kinds : List Kind
  pub many : 64 < length kinds
  pub distinct : IsDistinct kinds
  pub each : All (IsThere es locks cell) kinds

-- ---- what is told

-- the first open race; that there is none; or a cell that is touched in too many kinds
abbrev pub TellsApart : List Event → Locks → Apart → Type 0
TellsApart es locks RacesNowhere = (cell : Cell) (i j : ℕ) → IsOpenRace es locks cell i j → ⊥
TellsApart es locks (Races told) = IsFirstOpenRace es locks told.cell told.place told.later
TellsApart es locks (TooMany cell) = HasMany es locks cell
