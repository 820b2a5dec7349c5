-- What the rows of the cells say.
use Rattle.std.specs.Prelude.{◌≡◌, ℕ, List, [], Option, Some, None, map, slice_get, get_or, option_map, option_and_then, unwrap_or, fold, Bool, false, not}
use Rattle.std.specs.List.{flat_map, list_any}
use Rattle.ot_model.specs.Cells.{updated}
use Rattle.ot_model.specs.declared.expr.Cell.{Cell}
use Rattle.ot_model.specs.declared.stmt.Mode.{Mode}
use Rattle.ot_model.specs.declared.stmt.Use.{Use}
use Rattle.ot_depend.specs.Siblings.{uses_cell, writes_cell}
use Rattle.ot_depend.specs.Kept.{Entry, RowIs, row_entered_by, row_waits_for, HasRoom, Admits, Kid}
use Rattle.ot_depend.specs.Places.{place_in}
use Rattle.ot_depend.specs.declared.cells.Row.{Row}
use Rattle.ot_depend.specs.declared.cells.Spot.{Spot}
use Rattle.ot_depend.specs.declared.cells.Table.{Table}

-- where the row of a cell is
abbrev pub place_of : Table → Cell → Option ℕ
place_of t cell = place_in t.places cell

-- what a row stands for
abbrev pub entry_in : Row → Entry
entry_in r = record { writer = r.writer; users = r.users.items }

-- a row with its cell
pub record Line : Type 0 where
  pub cell : Cell
  pub entry : Entry

abbrev pub line_of : Row → Line
line_of r = record { cell = r.cell; entry = entry_in r }

abbrev pub lines_of : List Row → List Line
lines_of rows = map line_of rows

-- the row of a cell that no child uses
abbrev pub nobody : Entry
nobody = record { writer = None; users = [] }

-- what the line at a place says
abbrev pub entry_at : List Line → Option ℕ → Entry
entry_at lines place = unwrap_or (option_map (λ l. l.entry) (option_and_then (slice_get lines) place)) nobody

-- what the table says of a cell
abbrev pub entry_of : Table → Cell → Entry
entry_of t cell = entry_at (lines_of t.rows.items) (place_of t cell)

-- each cell that has a place has its own row there
abbrev pub IsSound : Table → Type 0
IsSound t = (cell : Cell) (place : ℕ) → place_of t cell ≡ Some place → (l : Line) × (slice_get (lines_of t.rows.items) place ≡ Some l) × (l.cell ≡ cell)

-- the use's row is at the place
abbrev pub IsPlaced : Table → Spot → Type 0
IsPlaced t s = place_of t s.one.cell ≡ Some s.place

-- one more child fits into the row at the place
abbrev pub HasRoomIn : Table → Spot → Type 0
HasRoomIn t s = (r : Row) → slice_get t.rows.items s.place ≡ Some r → HasRoom r.users

abbrev pub AdmitsIn : ℕ → Table → Spot → Type 0
AdmitsIn child t s = (r : Row) → slice_get t.rows.items s.place ≡ Some r → Admits child r.users

-- the line once the child uses its cell so
abbrev pub enter : ℕ → Mode → Line → Line
enter child mode l = record l { entry = row_entered_by child mode l.entry }

-- the lines once the child has these uses
abbrev pub enter_all : ℕ → List Line → List Spot → List Line
enter_all child lines spots = fold (λ ls s. updated ls s.place (enter child s.one.mode)) lines spots

-- for whom a child with these uses waits by itself
abbrev pub found_all : List Line → List Spot → List ℕ
found_all lines spots = flat_map (λ s. row_waits_for (entry_at lines (Some s.place)) s.one.mode) spots

-- the rows tell who uses and who writes each cell
abbrev pub RowsTell : List (List Use) → (Cell → Option ℕ) → List Line → Type 0
RowsTell ds at lines = (c : Cell) → RowIs (λ i. uses_cell c (get_or ds i [])) (λ i. writes_cell c (get_or ds i [])) (entry_at lines (at c)).writer (entry_at lines (at c)).users

-- What the rows of its cells say of a wait: only this crate knows it.

-- whether the child is known, and has not finished
abbrev pub is_pending : List Kid → ℕ → Bool
is_pending kids child = unwrap_or (option_map (λ k. not k.it.finished) (slice_get kids child)) false

-- whether one of those in the row has not finished for whom a use of the cell has to wait
abbrev pub must_wait : List Kid → Mode → Entry → Bool
must_wait kids mode e = list_any (is_pending kids) (row_waits_for e mode)

-- whether one of these uses has to wait
abbrev pub some_must_wait : List Kid → Table → List Use → Bool
some_must_wait kids t uses = list_any (λ u. must_wait kids u.mode (entry_of t u.cell)) uses
