-- What a judge keeps of cells while it goes along a list of events.
use Rattle.std.specs.Prelude.{◌≡◌, ◌<◌, ◌⊎◌, ℕ, true, false, List, [], ◌∷◌, ◌++◌, map, get_or, All, Contains, Option, Some, None, if◌then◌else◌}
use Rattle.ot_model.specs.Cells.{conflicts}
use Rattle.ot_model.specs.declared.expr.Cell.{Cell}
use Rattle.ot_model.specs.declared.stmt.Mode.{Mode}
use Rattle.ot_model.specs.declared.stmt.Mode.TheVariants.{Reads}
use Rattle.ot_model.specs.declared.stmt.Use.{Use}
use Rattle.ot_check.specs.Offences.{use_as}
use Rattle.ot_race.specs.Events.{Event}
use Rattle.ot_race.specs.Races.{IsUsed, IsRace}
use Rattle.ot_sets.specs.Sets.{has}
use Rattle.ot_race.specs.Standings.{IsUpTo}
use Rattle.ot_sets.specs.declared.numbers.Numbers.{Numbers}
use Rattle.ot_race.specs.declared.history.History.{History}
use Rattle.ot_race.specs.declared.histories.Row.{Row}

-- the two last phases of a cell's touches: the mode of the last, its events and its tips, and those of the one before
pub record Phases : Type 0 where
  pub mode : Mode
  pub last : List ℕ
  pub tips : List ℕ
  pub before : List ℕ
  pub tips_before : List ℕ

abbrev pub phases_of : History → Phases
phases_of h =
    record { mode = h.mode; last = h.last.items; tips = h.tips.items; before = h.before.items; tips_before = h.tips_before.items }

-- the phases of a cell that wasn't touched
abbrev pub no_phases : Phases
no_phases = record { mode = Reads; last = []; tips = []; before = []; tips_before = [] }

abbrev pub row_of : Row → List Phases
row_of row = map phases_of row.histories.items

abbrev pub phases_at : List Row → Cell → Phases
phases_at rows c = get_or (get_or (map row_of rows) c.array []) c.index no_phases

-- the events that a touch in this mode is to be behind: where it conflicts with the last phase that phase, else the one before
abbrev pub behind_of : Phases → Mode → List ℕ
behind_of phases mode = if conflicts phases.mode mode then phases.last else phases.before

-- a set has all of those where it has all their tips; and, where a touch in this mode goes on with the last phase, where it has
-- an event of that
pub record HasThose (phases : Phases) (mode : Mode) (known : Numbers) : Type 0 where
  pub by_tips : All (λ e. has known e ≡ true) (if conflicts phases.mode mode then phases.tips else phases.tips_before) →
      All (λ e. has known e ≡ true) (behind_of phases mode)
  pub by_one : conflicts phases.mode mode ≡ false → (e : ℕ) → Contains phases.last e → has known e ≡ true → All (λ b. has known b ≡ true) phases.before

-- the phases after one touch more, which is behind those, with these tips of the last
abbrev pub touched_by : Phases → Mode → ℕ → List ℕ → Phases
touched_by phases mode event tips =
    record {
      mode = mode;
      last = if conflicts phases.mode mode then event ∷ [] else phases.last ++ event ∷ [];
      tips = tips;
      before = if conflicts phases.mode mode then phases.last else phases.before;
      tips_before = if conflicts phases.mode mode then phases.tips else phases.tips_before;
    }

-- tips after an event that is behind the events of a set: it is one, and so are the others that aren't in the set
pub record AreTips (old : List ℕ) (event : ℕ) (known : Numbers) (new : List ℕ) : Type 0 where
  pub it : Contains new event
  pub others : (e : ℕ) → Contains old e → Contains new e ⊎ (has known e ≡ true)

-- the phases after one touch more
abbrev pub IsTouched : Phases → Mode → ℕ → Numbers → Phases → Type 0
IsTouched old mode event known new =
    (new ≡ touched_by old mode event new.tips) × AreTips (if conflicts old.mode mode then [] else old.tips) event known new.tips

-- event i touched the cell in this mode: before event n, or as one of those uses of event n that are passed
abbrev pub Touched : List Event → ℕ → List Use → Cell → Mode → ℕ → Type 0
Touched es n passed c mode i = ((i < n) × IsUsed es c mode i) ⊎ ((i ≡ n) × Contains passed (use_as mode c))

-- an event touched the cell in a mode that conflicts with this one
pub record TouchedAgainst (es : List Event) (n : ℕ) (passed : List Use) (c : Cell) (mode : Mode) (i : ℕ) : Type 0 where
  pub other : Mode
  pub touched : Touched es n passed c other i
  pub conflict : conflicts other mode ≡ true

-- event i is up to each of the last phase, and to one of the phase before
pub record IsEarlier (es : List Event) (phases : Phases) (i : ℕ) : Type 0 where
  pub each : (e : ℕ) → Contains phases.last e → IsUpTo es i e
  pub one : ℕ
  pub there : Contains phases.before one
  pub reached : IsUpTo es i one

-- event i is up to one of these tips
pub record IsUpToTip (es : List Event) (tips : List ℕ) (i : ℕ) : Type 0 where
  pub tip : ℕ
  pub there : Contains tips tip
  pub reached : IsUpTo es i tip

-- The phases are those of the touches so far: none of the last conflict, each of the phase before conflicts with them, and all
-- other touches are up to these; each event of a phase is up to one of its tips.
pub record IsHistory (es : List Event) (n : ℕ) (passed : List Use) (c : Cell) (phases : Phases) : Type 0 where
  pub last : (e : ℕ) → Contains phases.last e → Touched es n passed c phases.mode e
  pub before : (e : ℕ) → Contains phases.before e → TouchedAgainst es n passed c phases.mode e
  pub all : (i : ℕ) (mode : Mode) → Touched es n passed c mode i → (Contains phases.last i × (mode ≡ phases.mode)) ⊎ IsEarlier es phases i
  pub some : (i : ℕ) (mode : Mode) → Touched es n passed c mode i → (e : ℕ) × Contains phases.last e
  pub tips : (i : ℕ) → Contains phases.last i → IsUpToTip es phases.tips i
  pub tips_before : (i : ℕ) → Contains phases.before i → IsUpToTip es phases.tips_before i

-- so for all cells
abbrev pub AreHistories : List Event → ℕ → List Use → List Row → Type 0
AreHistories es n passed rows = (c : Cell) → IsHistory es n passed c (phases_at rows c)

-- each event before event n whose use conflicts with this one is in the set
abbrev pub AllBehind : List Event → ℕ → Numbers → Use → Type 0
AllBehind es n known u = (i : ℕ) (mode : Mode) → i < n → IsUsed es u.cell mode i → conflicts mode u.mode ≡ true → has known i ≡ true

-- what is told is a cell and an event that races there with event n, and nothing is where none does
abbrev pub RacesWith : List Event → ℕ → Option (Cell × ℕ) → Type 0
RacesWith es n None = (c : Cell) (i : ℕ) → IsRace es c i n → ⊥
RacesWith es n (Some told) = IsRace es told.0 told.1 n
