-- Sections in one row of all cells, in which 2^32 stand for each array, and a walk along it.
use Rattle.std.specs.Prelude.{ℕ, [], List, Option, ◌+◌, ◌*◌, ◌^◌, ◌<◌, nat_lt, Bool, true, false, not, ◌&&◌, if◌then◌else◌, ◌∷◌, bytes_eq, Some, None}
use Rattle.ot_model.specs.Programs.{Arrays}
use Rattle.ot_program.specs.Meanings.{Clause, operation_in}
use Rattle.ot_model.specs.Cells.{same_fold}
use Rattle.ot_model.specs.declared.expr.Section.{Section}
use Rattle.ot_model.specs.declared.fold.Fold.{Fold}
use Rattle.ot_why_mixed.specs.declared.clause.Named.{Named}
use Rattle.ot_why_mixed.specs.Mixed.{position_name}

-- where a cell stands in the row
abbrev pub address : ℕ → ℕ → ℕ
address array index = array * 2 ^ 32 + index

-- a clause: the array and the start of its section, where the section begins and ends, and by what the clause folds
pub record Row : Type 0 where
  pub name : List ℕ
  pub start : ℕ
  pub from : ℕ
  pub to : ℕ
  pub fold : Option Fold

abbrev pub row_at : Arrays → Section → Option Fold → Row
row_at shape s fold = record {
  name = position_name shape s.array;
  start = s.start;
  from = address s.array s.start;
  to = address s.array (s.start + s.len);
  fold = fold;
}

abbrev pub row_of : Arrays → Clause → Row
row_of shape c = row_at shape c.section (operation_in c.mode)

-- it ends before the places of its array do, and has a cell
pub record Fits (s : Section) : Type 0 where
  pub short : s.start + s.len < 2 ^ 32
  pub some : 0 < s.len

abbrev pub row_by : Named → Row
row_by n = record { name = n.array.now; start = n.start; from = n.from; to = n.to; fold = n.fold }

-- whether both fold by one operation, or none folds
abbrev pub same_operation : Option Fold → Option Fold → Bool
same_operation None None = true
same_operation (Some a) (Some b) = same_fold a b
same_operation a b = false

-- The first row that begins before another ends and folds otherwise. Of those so far, one that folds so reaches furthest.
abbrev pub sweep : ℕ → Option Fold → List Row → Option Row
sweep reach fold [] = None
sweep reach fold (r ∷ rs) =
    if nat_lt r.from reach && not (same_operation r.fold fold) then Some r else
    (if nat_lt reach r.to then sweep r.to r.fold rs else sweep reach fold rs)

-- the position of the first array of this name, from this one on, and how many cells it has
abbrev pub place_from : ℕ → List (List ℕ × ℕ) → List ℕ → Option (ℕ × ℕ)
place_from position [] name = None
place_from position (a ∷ rest) name = if bytes_eq a.0 name then Some (position, a.1) else place_from (position + 1) rest name
