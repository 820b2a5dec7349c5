-- What a judge keeps of tasks by the cells that they declare, while it goes along a list of events.
use Rattle.std.specs.Prelude.{◌≡◌, ◌≢◌, ◌<◌, ◌⊎◌, ◌==◌, ℕ, Bool, true, false, if◌then◌else◌, List, [], ◌∷◌, ◌++◌, Contains, Option, Some, None, slice_get}
use Rattle.std.specs.Ordering.{nat_cmp}
use Rattle.std.specs.BTreeMap.{get}
use Rattle.ot_model.specs.Cells.{one_writes}
use Rattle.ot_model.specs.declared.expr.Cell.{Cell}
use Rattle.ot_model.specs.declared.stmt.Mode.{Mode}
use Rattle.ot_model.specs.declared.stmt.Mode.TheVariants.{Writes}
use Rattle.ot_model.specs.declared.stmt.Use.{Use}
use Rattle.ot_race.specs.Ends.{HasEnded, goes_on}
use Rattle.ot_race.specs.Events.{Event, Begins}
use Rattle.ot_race.specs.Order.{Does}
use Rattle.ot_race.specs.Standings.{IsWithin}
use Rattle.ot_race.specs.declared.lanes.Lane.{Lane}
use Rattle.ot_race.specs.declared.lanes.Shelf.{Shelf}
use Rattle.ot_race.specs.declared.siblings.Row.{Row}
use Rattle.ot_race.specs.declared.siblings.Siblings.{Siblings}
use Rattle.ot_race.specs.declared.standing.Standing.{Standing}

-- ---- rows

-- those of a row for whom one that uses the cell in this mode waits: the writers, and where it writes all
abbrev pub is_write : Mode → Bool
is_write Writes = true
is_write mode = false

abbrev pub seen_in : Row → Mode → List ℕ
seen_in row mode = if is_write mode then row.writers.items ++ row.users.items else row.writers.items

abbrev pub seen_of : Option Row → Mode → List ℕ
seen_of None mode = []
seen_of (Some row) mode = seen_in row mode

-- the same of a cell: it has a row for each parent
abbrev pub seen_lane : Lane → ℕ → Mode → List ℕ
seen_lane lane parent mode = if lane.parent == parent then seen_in lane.row mode else seen_of (get nat_cmp lane.others parent) mode

abbrev pub seen_of_lane : Option Lane → ℕ → Mode → List ℕ
seen_of_lane None parent mode = []
seen_of_lane (Some lane) parent mode = seen_lane lane parent mode

abbrev pub seen_at : Shelf → ℕ → ℕ → Mode → List ℕ
seen_at shelf index parent mode = seen_of_lane (slice_get shelf.lanes.items index) parent mode

abbrev pub seen_of_shelf : Option Shelf → ℕ → ℕ → Mode → List ℕ
seen_of_shelf None index parent mode = []
seen_of_shelf (Some shelf) index parent mode = seen_at shelf index parent mode

-- those whom a use sees in a child of this parent
abbrev pub siblings_seen : Siblings → ℕ → Use → List ℕ
siblings_seen s parent u = seen_of_shelf (slice_get s.shelves.items u.cell.array) u.cell.index parent u.mode

abbrev pub seen_by_all : Siblings → ℕ → List Use → List ℕ
seen_by_all s parent [] = []
seen_by_all s parent (u ∷ us) = siblings_seen s parent u ++ seen_by_all s parent us

-- another parent's row, or that of another cell
abbrev pub IsElsewhere : ℕ → Cell → ℕ → Use → Type 0
IsElsewhere parent cell p u = (p ≢ parent) ⊎ (u.cell ≢ cell)

-- a row is put in
pub record IsPut (parent : ℕ) (cell : Cell) (row : Row) (old new : Siblings) : Type 0 where
  pub here : (u : Use) → u.cell ≡ cell → siblings_seen new parent u ≡ seen_in row u.mode
  pub others : (p : ℕ) (u : Use) → IsElsewhere parent cell p u → siblings_seen new p u ≡ siblings_seen old p u

-- ---- what a step changes

-- one of these uses is of the later one's cell, and one of the two writes it
pub record IsLedTo (uses : List Use) (later : Use) : Type 0 where
  pub one : Use
  pub there : Contains uses one
  pub same : one.cell ≡ later.cell
  pub written : one_writes one.mode later.mode ≡ true

-- one of these uses is of this cell and sees the child
pub record IsSeenBy (s : Siblings) (parent : ℕ) (uses : List Use) (cell : Cell) (child : ℕ) : Type 0 where
  pub one : Use
  pub there : Contains uses one
  pub same : one.cell ≡ cell
  pub sees : Contains (siblings_seen s parent one) child

-- A child has entered with these uses: it is seen where it is to be, and of those that were seen only some that have ended no
-- longer are, whom it sees itself; it is seen in their place.
pub record HaveEntered (ends : List ℕ) (n parent child : ℕ) (uses : List Use) (old new : Siblings) : Type 0 where
  pub only : (p c : ℕ) (u : Use) → Contains (siblings_seen new p u) c → Contains (siblings_seen old p u) c ⊎ ((p ≡ parent) × (c ≡ child) × IsLedTo uses u)
  pub kept : (p c : ℕ) (u : Use) → Contains (siblings_seen old p u) c → Contains (siblings_seen new p u) c
      ⊎ ((p ≡ parent) × (goes_on ends n c ≡ false) × IsSeenBy old parent uses u.cell c × Contains (siblings_seen new p u) child)
  pub entered : (u : Use) → IsLedTo uses u → Contains (siblings_seen new parent u) child

-- A wait with these uses has passed: of those that were seen only some that have ended no longer are, whom it awaited.
pub record HavePassed (ends : List ℕ) (n parent : ℕ) (uses : List Use) (old new : Siblings) : Type 0 where
  pub only : (p c : ℕ) (u : Use) → Contains (siblings_seen new p u) c → Contains (siblings_seen old p u) c
  pub kept : (p c : ℕ) (u : Use) → Contains (siblings_seen old p u) c → Contains (siblings_seen new p u) c
      ⊎ ((p ≡ parent) × (goes_on ends n c ≡ false) × IsSeenBy old parent uses u.cell c)

-- ---- what the rows are

-- among the first n events a child of the parent began on which one depends that has this use
pub record HasDeclared (es : List Event) (n parent : ℕ) (later : Use) (child : ℕ) : Type 0 where
  pub begin : ℕ
  pub uses : List Use
  pub early : begin < n
  pub does : Does es child (Begins parent uses) begin
  pub led : IsLedTo uses later

-- the child has ended, and its parent knows all that it knows, or another child that the use sees does
pub record IsStoodFor (es : List Event) (n : ℕ) (tasks : List Standing) (s : Siblings) (parent : ℕ) (u : Use) (child : ℕ) : Type 0 where
  pub ended : HasEnded es n child
  pub by : IsWithin tasks child parent ⊎ ((other : ℕ) × Contains (siblings_seen s parent u) other × IsWithin tasks child other)

-- a use sees such children alone, and each one that it doesn't see is stood for
pub record AreSiblings (es : List Event) (n : ℕ) (tasks : List Standing) (s : Siblings) : Type 0 where
  pub sound : (p c : ℕ) (u : Use) → Contains (siblings_seen s p u) c → HasDeclared es n p u c
  pub all : (p c : ℕ) (u : Use) → HasDeclared es n p u c → Contains (siblings_seen s p u) c ⊎ IsStoodFor es n tasks s p u c
