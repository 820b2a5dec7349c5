-- Who uses cells since they were written, and who waits at them.
use Rattle.std.specs.Prelude.{◌≡◌, ◌/◌, ◌%◌, [], ◌∷◌, ◌++◌, ℕ, suc, Bool, true, List, Option, Some, None, take, drop, cond, unwrap_or, option_map, slice_get, slice_index_or}
use Rattle.std.specs.Option.{option_to_list}
use Rattle.ot_model.specs.declared.expr.Cell.{Cell}
use Rattle.ot_model.specs.declared.stmt.Mode.{Mode}
use Rattle.ot_model.specs.declared.stmt.Use.{Use}
use Rattle.ot_depend.specs.Siblings.{is_write, is_direct, times}
use Rattle.ot_show_graph.specs.Links.{cells_at, siblings_with}
use Rattle.ot_show_graph.specs.declared.rows.Row.{Row}
use Rattle.ot_show_graph.specs.declared.rows.Page.{Page}
use Rattle.ot_show_graph.specs.declared.rows.Shelf.{Shelf}
use Rattle.ot_show_graph.specs.declared.rows.Rows.{Rows}
use Rattle.ot_show_graph.specs.declared.link.Link.{Link}
use Rattle.std.specs.Ordering.{nat_cmp}
use Rattle.std.specs.BTreeMap.{get}
use Rattle.std.specs.declared.collections.BTreeMap.{BTreeMap}
use Rattle.std.specs.declared.vec.Vec.{Vec}
use Rattle.std.specs.declared.alloc.Global.{Global}

-- a cell's row: the last child that writes it, and those that use it since
pub record CellRow : Type 0 where
  pub writer : Option ℕ
  pub users : List ℕ

abbrev pub no_child : CellRow
no_child = record { writer = None; users = [] }

abbrev pub row_seen : Row → CellRow
row_seen r = record { writer = r.writer; users = r.users.items }

-- those in the row for whom a child waits by itself that uses the cell next
abbrev pub waited_for : CellRow → Mode → List ℕ
waited_for e mode = option_to_list e.writer ++ cond (is_write mode) e.users []

-- the row behind a child, which uses the cell or doesn't, and writes it or doesn't
abbrev pub row_behind : ℕ → Bool → Bool → CellRow → CellRow
row_behind child uses writes e =
    cond uses (record { writer = cond writes (Some child) e.writer; users = cond writes [] (e.users ++ child ∷ []) }) e

-- the row once a child uses the cell so
abbrev pub entered_by : ℕ → Mode → CellRow → CellRow
entered_by child mode e = row_behind child true (is_write mode) e

-- the row of the cell at a place of a page, that at an index of an array, and that of a cell
abbrev pub entry_on : Page → ℕ → CellRow
entry_on page place = unwrap_or (option_map row_seen (slice_get page.rows.items place)) no_child

abbrev pub row_on_shelf : Shelf → ℕ → CellRow
row_on_shelf shelf index = unwrap_or (option_map (λ page. entry_on page (index % 32)) (slice_get shelf.pages.items (index / 32))) no_child

abbrev pub row_in_rows : Rows → Cell → CellRow
row_in_rows rows c = unwrap_or (option_map (λ shelf. row_on_shelf shelf c.index) (slice_get rows.shelves.items c.array)) no_child

-- whether a child that comes after these, with this use, waits by itself for one of them
abbrev pub is_met : List (List Use) → ℕ → Use → Bool
is_met before earlier used = is_direct (slice_index_or before earlier []) (siblings_with (drop (suc earlier) before)) (used ∷ [])

-- the rows of the cells have each of these children once for whom one that comes after them waits by itself
abbrev pub TellsRows : List (List Use) → (Cell → CellRow) → Type 0
TellsRows before rows = (u : Use) (earlier : ℕ) → times earlier (waited_for (rows u.cell) u.mode) ≡ cond (is_met before earlier u) 1 0

-- the cells that are kept beside an earlier child
abbrev pub cells_with : BTreeMap ℕ (Vec Cell Global) Global → ℕ → List Cell
cells_with met earlier = unwrap_or (option_map (λ cells. cells.items) (get nat_cmp met earlier)) []

-- they are those at which a child with these uses, which comes after these children, waits for that one by itself
abbrev pub AreMet : List (List Use) → List Use → BTreeMap ℕ (Vec Cell Global) Global → Type 0
AreMet before uses met = (earlier : ℕ) → cells_with met earlier ≡ cells_at (slice_index_or before earlier []) (drop (suc earlier) before) uses

-- so for each of the first of these children, over those before it
abbrev pub AreLabels : List (List Use) → List (BTreeMap ℕ (Vec Cell Global) Global) → Type 0
AreLabels decls labels =
    (later : ℕ) (met : BTreeMap ℕ (Vec Cell Global) Global) → slice_get labels later ≡ Some met → AreMet (take later decls) (slice_index_or decls later []) met

-- the link from the one to the other
abbrev pub link_from : ℕ → ℕ → Link
link_from earlier later = record { earlier = earlier; later = later }
