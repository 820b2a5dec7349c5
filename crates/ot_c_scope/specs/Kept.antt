-- What is kept beside openings and parts of arrays, by which they are found.
use Rattle.std.specs.Prelude.{◌≡◌, ℕ, nat_eq, ◌==◌, Bool, List, find, Option, Some, None, option_map, if◌then◌else◌}
use Rattle.std.specs.List.{list_any}
use Rattle.indexmap.specs.IndexMap.{IndexMap, get}
use Rattle.ot_c_scope.specs.declared.scope.Opening.{Opening}
use Rattle.ot_c_scope.specs.declared.scope.Pointee.{Pointee}
use Rattle.ot_c_scope.specs.declared.scope.Portion.{Portion}
use Rattle.ot_c_scope.specs.Scopes.{Run, Extent, extent_of, points_into}

-- the cell of an array at a place
abbrev pub cell_at : ℕ × ℕ → Pointee
cell_at c = record { array = c.0; place = c.1 }

-- whether one of them is one of these cells of an array
abbrev pub points_in : ℕ → Run → List (ℕ × ℕ) → Bool
points_in x run cells = list_any (λ c. points_into x run (Some (cell_at c))) cells

-- where the first of some cells of an array may stand
abbrev pub first_of : Run → ℕ
first_of None = 0
first_of (Some r) = r.0

-- of openings, the innermost first: the innermost by each name, and the cells that pointers name
pub record AreNewest {S : Type 0} (newest : IndexMap ℕ Opening S) (cells : List (ℕ × ℕ)) (opened : List Opening) : Type 0 where
  pub by_name : (name : ℕ) → get nat_eq newest name ≡ find (λ o. o.array == name) opened
  pub by_cell : (x : ℕ) (run : Run) → points_in x run cells ≡ list_any (λ o. points_into x run o.pointee) opened

-- of parts of arrays, the first of each array
abbrev pub AreOldest : {S : Type 0} → IndexMap ℕ Portion S → List Extent → Type 0
AreOldest oldest extents = (x : ℕ) → option_map extent_of (get nat_eq oldest x) ≡ find (λ e. e.array == x) extents

-- what was found of an array, or else a part of it
abbrev pub first_or : Option Portion → Portion → ℕ → Option Portion
first_or (Some first) p x = Some first
first_or None p x = if p.array == x then Some p else None
