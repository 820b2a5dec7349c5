-- One naming of a cell after the other, as they are collected.
use Rattle.std.specs.Prelude.{ℕ, ◌+◌, ◌^◌, ◌≤◌, if◌then◌else◌, List, Option, Some, None, count_by}
use Rattle.std.specs.List.{fold}
use Rattle.std.specs.Map.{lookup}
use Rattle.std.specs.BTreeMap.{insert_entry, is_at}
use Rattle.std.specs.Ordering.{nat_cmp, ordering_then, is_lt}
use Rattle.std.specs.declared.cmp.Ordering.{Ordering}
use Rattle.ot_model.specs.Cells.{same_fold}
use Rattle.ot_model.specs.Tree.{cells_of}
use Rattle.ot_model.specs.declared.expr.Cell.{Cell}
use Rattle.ot_model.specs.declared.expr.Section.{Section}
use Rattle.ot_model.specs.declared.stmt.Mode.{Mode}
use Rattle.ot_model.specs.declared.stmt.Mode.TheVariants.{Reads, Writes, Folds}
use Rattle.ot_program.specs.declared.clause.Clause.{Clause}

-- its cells have indexes of 32 bits
abbrev pub fits : Section → Type 0
fits s = s.start + s.len ≤ 2 ^ 32

abbrev pub cell_order : ℕ × ℕ → ℕ × ℕ → Ordering
cell_order a b = ordering_then (nat_cmp a.0 b.0) (nat_cmp a.1 b.1)

-- The cells that are named, by array and then by index, each with its mode, or with none where one
-- clause that names it is `red` and another isn't, or is `red` with another operation.
abbrev pub Named : Type 0
Named = List ((ℕ × ℕ) × Option Mode)

-- how many of them come before a cell
abbrev pub before : ℕ × ℕ → Named → ℕ
before key named = count_by (λ e. is_lt (cell_order e.0 key)) named

-- one mode for two: a cell is only read where it is named as read alone
abbrev pub together : Option Mode → Mode → Option Mode
together None mode = None
together (Some (Folds a)) (Folds b) = if same_fold a b then Some (Folds a) else None
together (Some (Folds a)) mode = None
together (Some earlier) (Folds b) = None
together (Some Reads) Reads = Some Reads
together (Some earlier) mode = Some Writes

-- the mode of a cell that may have been named before
abbrev pub with_mode : Option (Option Mode) → Mode → Option Mode
with_mode None mode = Some mode
with_mode (Some earlier) mode = together earlier mode

-- one naming of a cell more
abbrev pub name_cell : Mode → Named → Cell → Named
name_cell mode named cell =
    insert_entry cell_order named (cell.array, cell.index)
    (with_mode (lookup (is_at (cell_order (cell.array, cell.index))) named) mode)

-- each cell of a clause is named once more
abbrev pub name_clause : Named → Clause → Named
name_clause named clause = fold (name_cell clause.mode) named (cells_of clause.section)
