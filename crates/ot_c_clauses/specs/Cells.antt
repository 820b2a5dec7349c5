-- What is kept beside the cells that a task folds into by pointers, by which they are found.
use Rattle.std.specs.Prelude.{◌≡◌, ℕ, ◌==◌, nat_le, nat_lt, Bool, ◌&&◌, ◌||◌, List, unwrap_or}
use Rattle.std.specs.List.{count_by, list_any}
use Rattle.std.specs.BTreeMap.{BTreeMap, get}
use Rattle.std.specs.BTreeSet.{BTreeSet, contains}
use Rattle.std.specs.Ordering.{nat_cmp, ordering_then}
use Rattle.std.specs.declared.cmp.Ordering.{Ordering}
use Rattle.ot_c_clauses.specs.declared.own.Own.{Own}

-- an array, and a place in it
abbrev pub CellKey : Type 0
CellKey = ℕ × ℕ

abbrev pub cell_key_cmp : CellKey → CellKey → Ordering
cell_key_cmp x y = ordering_then (nat_cmp x.0 y.0) (nat_cmp x.1 y.1)

-- whether it is the cell of an array at a place
abbrev pub is_at : ℕ → ℕ → Own → Bool
is_at x p o = o.cell.array == x && o.cell.place == p

-- it stands under `in` too where it says so, or is among those that do
abbrev pub under_in : BTreeSet CellKey → Own → Own
under_in named o = record o { named = o.named || contains cell_key_cmp named (o.cell.array, o.cell.place) }

abbrev pub times_at : BTreeMap CellKey ℕ → CellKey → ℕ
times_at times c = unwrap_or (get cell_key_cmp times c) 0

-- the arrays of some cells
abbrev pub HasArrays : BTreeSet ℕ → List Own → Type 0
HasArrays arrays own = (x : ℕ) → contains nat_cmp arrays x ≡ list_any (λ o. o.cell.array == x) own

-- how often each cell is there
abbrev pub HasTimes : BTreeMap CellKey ℕ → List Own → Type 0
HasTimes times own = (x p : ℕ) → times_at times (x, p) ≡ count_by (is_at x p) own

pub record AreKept (arrays : BTreeSet ℕ) (times : BTreeMap CellKey ℕ) (own : List Own) : Type 0 where
  pub by_array : HasArrays arrays own
  pub by_cell : HasTimes times own

-- the cells of an array from a place up to another, beside others
abbrev pub HasRun : ℕ → ℕ → ℕ → BTreeSet CellKey → BTreeSet CellKey → Type 0
HasRun x first end old new = (y p : ℕ) → contains cell_key_cmp new (y, p) ≡ (contains cell_key_cmp old (y, p) || (y == x && (nat_le first p && nat_lt p end)))
