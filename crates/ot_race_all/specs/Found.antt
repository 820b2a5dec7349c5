-- What is found while one goes along a list of events: for this crate alone.
use Rattle.std.specs.Prelude.{◌≡◌, ◌<◌, ◌≤◌, ◌+◌, ◌↔◌, ℕ, Bool, true, false, List, [], length, map, get_or, Contains}
use Rattle.std.specs.BTreeSet.{BTreeSet, contains}
use Rattle.std.specs.Ordering.{nat_cmp, ordering_then}
use Rattle.std.specs.declared.cmp.Ordering.{Ordering}
use Rattle.ot_model.specs.Cells.{conflicts}
use Rattle.ot_model.specs.declared.expr.Cell.{Cell}
use Rattle.ot_model.specs.declared.stmt.Mode.{Mode}
use Rattle.ot_model.specs.declared.stmt.Use.{Use}
use Rattle.ot_race.specs.Events.{Event}
use Rattle.ot_race.specs.Order.{IsBefore}
use Rattle.ot_race.specs.Races.{IsUsed, IsAt}
use Rattle.ot_race.specs.Histories.{Touched}
use Rattle.ot_race.specs.declared.race.Race.{Race}
use Rattle.ot_race_all.specs.AllRaces.{PlacesRace, IsTold, AreRaces, IsTooMuch, touches_before}
use Rattle.ot_race_all.specs.declared.found.Found.{Found}
use Rattle.ot_race_all.specs.declared.touched.Touch.{Touch}
use Rattle.ot_race_all.specs.declared.touched.Touches.{Touches}
use Rattle.ot_race_all.specs.declared.touched.Row.{Row}

-- ---- touches

abbrev pub touches_of : Touches → List Touch
touches_of t = t.touches.items

abbrev pub row_of_touches : Row → List (List Touch)
row_of_touches row = map touches_of row.cells.items

-- the touches of a cell
abbrev pub touches_at : List Row → Cell → List Touch
touches_at rows c = get_or (get_or (map row_of_touches rows) c.array []) c.index []

-- they are those of the first n events, and of those uses of the next that are passed
abbrev pub AreTouches : List Event → ℕ → List Use → List Row → Type 0
AreTouches es n passed rows = (c : Cell) (mode : Mode) (i : ℕ) → Contains (touches_at rows c) (record { mode = mode; number = i }) ↔ Touched es n passed c mode i

-- each cell has as many as they are
abbrev pub HasCounts : List Event → ℕ → List Row → Type 0
HasCounts es n rows = (c : Cell) → length (touches_at rows c) ≡ touches_before es n c

-- so many comparisons were left, and are; or they were too few
abbrev pub IsLeft : ℕ → ℕ → ℕ → Bool → Type 0
IsLeft old new count true = old ≡ new + count
IsLeft old new count false = old < count

-- ---- races

abbrev pub Pair : Type 0
Pair = ℕ × ℕ

abbrev pub pair_cmp : Pair → Pair → Ordering
pair_cmp x y = ordering_then (nat_cmp x.0 y.0) (nat_cmp x.1 y.1)

-- the set has the pairs of places that are told
abbrev pub HasPairs : BTreeSet Pair → List Race → Type 0
HasPairs pairs all = (place later : ℕ) → (contains pair_cmp pairs (place, later) ≡ true) ↔ IsTold all place later

-- event j races, as n or a later one: then the places that are told race by an event up to it
abbrev pub Lead : List Event → ℕ → List Race → Type 0
Lead es n all =
    (told : Race) → Contains all told → (place later j : ℕ) → n ≤ j → PlacesRace es place later j → (k : ℕ) × (k ≤ j) × PlacesRace es told.place told.later k

-- all races by the first n events are found
pub record IsFound (es : List Event) (n : ℕ) (found : Found) : Type 0 where
  pub races : AreRaces es n found.all.items
  pub pairs : HasPairs found.pairs found.all.items
  pub leading : Lead es n found.all.items

-- the list ends there, or it takes too long
abbrev pub IsEnd : List Event → ℕ → List Race → Bool → Type 0
IsEnd es n all true = n ≡ length es
IsEnd es n all false = IsTooMuch es n all

-- what was told is still
abbrev pub IsKept : Found → Found → Type 0
IsKept old new = (place later : ℕ) → IsTold old.all.items place later → IsTold new.all.items place later

-- where event i isn't before event n, and this use of event n conflicts with one of it, their places are told
abbrev pub TouchTold : List Event → ℕ → Use → Found → Mode → ℕ → Type 0
TouchTold es n used found mode i =
    conflicts mode used.mode ≡ true → (IsBefore es i n → ⊥) → (place later : ℕ) → IsAt es place i → IsAt es later n → IsTold found.all.items place later

-- so for each event before
abbrev pub UseTold : List Event → ℕ → Found → Use → Type 0
UseTold es n found used = (mode : Mode) (i : ℕ) → i < n → IsUsed es used.cell mode i → TouchTold es n used found mode i
