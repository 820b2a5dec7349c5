-- What is kept of cells while one goes along a list of events: for this crate alone.
use Rattle.std.specs.Prelude.{◌≡◌, ◌<◌, ◌≤◌, ◌+◌, ◌⊎◌, ℕ, Bool, true, false, not, ◌&&◌, List, [], ◌∷◌, ◌++◌, length, map, get_or, Contains, Option, Some, None, slice_get}
use Rattle.ot_model.specs.Cells.{conflicts}
use Rattle.ot_model.specs.declared.expr.Cell.{Cell}
use Rattle.ot_model.specs.declared.stmt.Mode.{Mode}
use Rattle.ot_model.specs.declared.stmt.Use.{Use}
use Rattle.ot_race.specs.Events.{Event}
use Rattle.ot_race.specs.Histories.{Touched}
use Rattle.ot_race.specs.Order.{IsBefore}
use Rattle.ot_race.specs.Races.{IsUsed}
use Rattle.ot_race.specs.Standings.{IsUpTo}
use Rattle.ot_sets.specs.Sets.{has}
use Rattle.ot_sets.specs.declared.numbers.Numbers.{Numbers}
use Rattle.ot_race_locks.specs.OpenRaces.{set_at, locks_in, share, Kind, IsDistinct, IsOpenRace, HasMany}
use Rattle.ot_race_locks.specs.declared.group.Group.{Group}
use Rattle.ot_race_locks.specs.declared.line.Line.{Line}
use Rattle.ot_race_locks.specs.declared.kept.Row.{Row}
use Rattle.ot_race_locks.specs.declared.locks.Locks.{Locks}

abbrev pub kind : ℕ → Mode → Kind
kind set mode = record { set = set; mode = mode }

-- whether touches of these kinds race where nothing orders them
abbrev pub are_against : Locks → Kind → Kind → Bool
are_against locks one two = conflicts one.mode two.mode && not (share (locks_in locks one.set) (locks_in locks two.set))

-- ---- groups

abbrev pub kind_of : Group → Kind
kind_of group = kind group.set group.mode

abbrev pub groups_of : Line → List Group
groups_of line = line.groups.items

abbrev pub kind_row : Row → List (List Group)
kind_row row = map groups_of row.lines.items

-- the groups of a cell
abbrev pub groups_at : List Row → Cell → List Group
groups_at rows c = get_or (get_or (map kind_row rows) c.array []) c.index []

abbrev pub IsRising : List ℕ → Type 0
IsRising xs = (a b x y : ℕ) → a < b → slice_get xs a ≡ Some x → slice_get xs b ≡ Some y → x ≤ y

-- event e touched the cell in the group's kind
pub record IsTip (es : List Event) (locks : Locks) (n : ℕ) (passed : List Use) (c : Cell) (group : Group) (e : ℕ) : Type 0 where
  pub touched : Touched es n passed c group.mode e
  pub set_is : set_at locks e ≡ group.set

-- event i is up to a tip of the group of its kind
pub record IsBehindTip (es : List Event) (groups : List Group) (own : Kind) (i : ℕ) : Type 0 where
  pub group : Group
  pub there : Contains groups group
  pub kind_is : kind_of group ≡ own
  pub tip : ℕ
  pub tip_there : Contains group.tips.items tip
  pub reached : IsUpTo es i tip

-- The touches of the cell so far are up to tips of the groups of their kinds; a group's tips are such touches, in turn; it has one,
-- and no two groups are of one kind.
pub record AreGroups (es : List Event) (locks : Locks) (n : ℕ) (passed : List Use) (c : Cell) (groups : List Group) : Type 0 where
  pub tips : (group : Group) (e : ℕ) → Contains groups group → Contains group.tips.items e → IsTip es locks n passed c group e
  pub some : (group : Group) → Contains groups group → (e : ℕ) × Contains group.tips.items e
  pub rising : (group : Group) → Contains groups group → IsRising group.tips.items
  pub distinct : IsDistinct (map kind_of groups)
  pub all : (mode : Mode) (i : ℕ) → Touched es n passed c mode i → IsBehindTip es groups (kind (set_at locks i) mode) i

-- so for all cells
abbrev pub AreAllGroups : List Event → Locks → ℕ → List Use → List Row → Type 0
AreAllGroups es locks n passed rows = (c : Cell) → AreGroups es locks n passed c (groups_at rows c)

-- ---- what a touch finds

-- of the tips from this one on none is missing in the set, or this one is
abbrev pub MissingFrom : List ℕ → ℕ → Numbers → Option ℕ → Type 0
MissingFrom tips from known None = (e : ℕ) → Contains tips e → from ≤ e → has known e ≡ true
MissingFrom tips from known (Some e) = Contains tips e × (has known e ≡ false)

-- a tip of this kind that is in the set, or 0
abbrev pub IsFrom : List Group → Kind → Numbers → ℕ → Type 0
IsFrom groups own known from =
    (from ≡ 0) ⊎ ((group : Group) × Contains groups group × (kind_of group ≡ own) × Contains group.tips.items from × (has known from ≡ true))

-- in groups that are against the kind no tip from that one on is missing
pub record NoneMissing (locks : Locks) (groups : List Group) (own : Kind) (known : Numbers) : Type 0 where
  pub from : ℕ
  pub is_from : IsFrom groups own known from
  pub none : (group : Group) (e : ℕ) → Contains groups group → are_against locks (kind_of group) own ≡ true → Contains group.tips.items e → from ≤ e → has known e ≡ true

-- this tip of such a group is missing
pub record OneMissing (locks : Locks) (groups : List Group) (own : Kind) (known : Numbers) (e : ℕ) : Type 0 where
  pub group : Group
  pub there : Contains groups group
  pub against : are_against locks (kind_of group) own ≡ true
  pub tip : Contains group.tips.items e
  pub missing : has known e ≡ false

abbrev pub IsRacing : Locks → List Group → Kind → Numbers → Option ℕ → Type 0
IsRacing locks groups own known None = NoneMissing locks groups own known
IsRacing locks groups own known (Some e) = OneMissing locks groups own known e

-- ---- what a touch changes

-- the event is put behind tips, in place of the last one where that is in the set
pub record TipIsPut (old : List ℕ) (event : ℕ) (known : Numbers) (new : List ℕ) : Type 0 where
  pub front : List ℕ
  pub is : new ≡ front ++ event ∷ []
  pub was : (old ≡ front) ⊎ ((last : ℕ) × (old ≡ front ++ last ∷ []) × (has known last ≡ true))

-- a group of this kind has the event more
pub record HasGrown (own : Kind) (event : ℕ) (known : Numbers) (old new : Group) : Type 0 where
  pub kind_was : kind_of old ≡ own
  pub kind_is : kind_of new ≡ own
  pub put : TipIsPut old.tips.items event known new.tips.items

-- a group of this kind is new
pub record IsNew (own : Kind) (event : ℕ) (new : Group) : Type 0 where
  pub kind_is : kind_of new ≡ own
  pub tips : new.tips.items ≡ event ∷ []

-- one of the groups has the event more, or there is one more
pub record AreGrown (own : Kind) (event : ℕ) (known : Numbers) (old new : List Group) : Type 0 where
  pub kinds : (map kind_of new ≡ map kind_of old) ⊎ ((map kind_of new ≡ map kind_of old ++ own ∷ []) × (Contains (map kind_of old) own → ⊥))
  pub kept : (g : Group) → Contains old g → Contains new g ⊎ ((h : Group) × Contains new h × HasGrown own event known g h)
  pub only : (h : Group) → Contains new h → Contains old h ⊎ (IsNew own event h ⊎ ((g : Group) × Contains old g × HasGrown own event known g h))
  pub it : (h : Group) × Contains new h × (kind_of h ≡ own) × Contains h.tips.items event

-- there are too many kinds for one more
pub record AreFull (own : Kind) (groups : List Group) : Type 0 where
  pub many : 64 ≤ length groups
  pub other : Contains (map kind_of groups) own → ⊥

-- the first touch of a kind, where there aren't too many
abbrev pub KindHasBegun : Kind → ℕ → List Group → List Group → Bool → Type 0
KindHasBegun own event old new true = (g : Group) × IsNew own event g × (new ≡ old ++ g ∷ [])
KindHasBegun own event old new false = 64 ≤ length old

abbrev pub KindFits : Kind → ℕ → Numbers → List Group → List Group → Bool → Type 0
KindFits own event known old new true = AreGrown own event known old new
KindFits own event known old new false = AreFull own old

-- ---- the events so far

-- each two that touch a cell in kinds that are against each other are ordered
abbrev pub AreOrdered : List Event → Locks → ℕ → Type 0
AreOrdered es locks n =
    (c : Cell) (one other : Mode) (i j : ℕ) → i < j → j < n → IsUsed es c one i → IsUsed es c other j
    → are_against locks (kind (set_at locks i) one) (kind (set_at locks j) other) ≡ true → IsBefore es i j

-- each event that touched this cell against this use of event n is before that
abbrev pub IsBehindAll : List Event → Locks → ℕ → Use → Type 0
IsBehindAll es locks n used =
    (mode : Mode) (i : ℕ) → i < n → IsUsed es used.cell mode i → are_against locks (kind (set_at locks i) mode) (kind (set_at locks n) used.mode) ≡ true → IsBefore es i n

-- what is told is a cell and an event that races openly there with event n, and where nothing is the events up to that are ordered
abbrev pub OpensWith : List Event → Locks → ℕ → Option (Cell × ℕ) → Type 0
OpensWith es locks n None = AreOrdered es locks (n + 1)
OpensWith es locks n (Some told) = IsOpenRace es locks told.0 told.1 n

-- where no cell is told the touches of the first events are kept, and a cell that is told has too many kinds
abbrev pub IsKeptOr : List Event → Locks → ℕ → List Row → Option Cell → Type 0
IsKeptOr es locks n rows None = AreAllGroups es locks n [] rows
IsKeptOr es locks n rows (Some cell) = HasMany es locks cell
