-- All races of a list of events, told by the places of their statements: each pair of places once.
use Rattle.std.specs.Prelude.{◌≡◌, ◌<◌, ◌≤◌, ◌⊎◌, ◌+◌, ◌-◌, ℕ, zero, suc, List, [], length, take, All, Contains, Option, Some, None, slice_get}
use Rattle.std.specs.List.{sum_by, count_by}
use Rattle.ot_model.specs.Cells.{same_cell}
use Rattle.ot_model.specs.declared.expr.Cell.{Cell}
use Rattle.ot_model.specs.declared.stmt.Use.{Use}
use Rattle.ot_race.specs.Events.{Event}
use Rattle.ot_race.specs.Races.{IsRace, IsAt, TellsFirst}
use Rattle.ot_race.specs.declared.race.Race.{Race}
use Rattle.ot_race_all.specs.declared.races.More.{More}
use Rattle.ot_race_all.specs.declared.races.More.TheVariants.{Exactly, AtLeast}
use Rattle.ot_race_all.specs.declared.races.Races.{Races}

-- event j is of the statement of the later place, and races with one of the other
pub record PlacesRace (es : List Event) (place later j : ℕ) : Type 0 where
  pub cell : Cell
  pub i : ℕ
  pub race : IsRace es cell i j
  pub earlier_at : IsAt es place i
  pub later_at : IsAt es later j

-- events of the places that are told race at the cell that is told
pub record IsSome (es : List Event) (told : Race) : Type 0 where
  pub i : ℕ
  pub j : ℕ
  pub race : IsRace es told.cell i j
  pub earlier_at : IsAt es told.place i
  pub later_at : IsAt es told.later j

-- these places are told
pub record IsTold (all : List Race) (place later : ℕ) : Type 0 where
  pub it : Race
  pub there : Contains all it
  pub earlier_is : it.place ≡ place
  pub later_is : it.later ≡ later

-- the one is of other places than the next, and these race no later than those: by an event up to each by which those do
pub record ComesFirst (es : List Event) (one next : Race) : Type 0 where
  pub other : one.place ≡ next.place → one.later ≡ next.later → ⊥
  pub earlier : (j : ℕ) → PlacesRace es next.place next.later j → (k : ℕ) × (k ≤ j) × PlacesRace es one.place one.later k

-- All races by one of the first n events, and maybe some by others: the first one that a judge tells is the first; each is one;
-- all pairs of places are there, each once, in the order of the first event by which they race.
pub record AreRaces (es : List Event) (n : ℕ) (all : List Race) : Type 0 where
  pub first : TellsFirst es (slice_get all 0)
  pub each : All (IsSome es) all
  pub every : (place later j : ℕ) → j < n → PlacesRace es place later j → IsTold all place later
  pub in_turn : (a b : ℕ) (one next : Race) → a < b → slice_get all a ≡ Some one → slice_get all b ≡ Some next → ComesFirst es one next

-- ---- where it takes too long

-- how many touches of a cell there are by the first n events
abbrev pub touches_before : List Event → ℕ → Cell → ℕ
touches_before es n c = sum_by (λ e. count_by (λ u. same_cell c u.cell) e.uses) (take n es)

-- how many pairs of touches of one cell there are, one of them by event n and the other by an earlier event
abbrev pub uses_in : Option Event → List Use
uses_in None = []
uses_in (Some e) = e.uses

abbrev pub pairs_with : List Event → ℕ → ℕ
pairs_with es n = sum_by (λ u. touches_before es n u.cell) (uses_in (slice_get es n))

-- how many there are by two of the first n events
abbrev pub pairs_within : List Event → ℕ → ℕ
pairs_within es zero = 0
pairs_within es (suc n) = pairs_within es n + pairs_with es n

-- the first n events race so often, or with the next there are so many pairs
abbrev pub IsTooMuch : List Event → ℕ → List Race → Type 0
IsTooMuch es n all = (1000000 < length all) ⊎ (100000000 < pairs_within es (n + 1))

-- ---- what is told

-- how many are told no more: of all races, or of those by some first events where all take too long
abbrev pub IsMore : List Event → List Race → ℕ → More → Type 0
IsMore es all rest (Exactly more) = AreRaces es (length es) all × (more ≡ rest)
IsMore es all rest (AtLeast more) = ((n : ℕ) × AreRaces es n all × IsTooMuch es n all) × (more ≡ rest)

-- what is told of all races: so many first ones, and how many more there are
abbrev pub TellsAll : List Event → ℕ → Races → Type 0
TellsAll es most races = (all : List Race) × (races.told.items ≡ take most all) × IsMore es all (length all - most) races.more
