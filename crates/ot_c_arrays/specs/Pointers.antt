-- Pointers to cells of arrays. Wherever a file declares a name as a pointer, it points to the same cell.
use Rattle.std.specs.Prelude.{ℕ, ◌==◌, nat_lt, Bool, false, ◌&&◌, List, slice_get, slice_set, Option, Some, None, Result, Ok, Err, String, if◌then◌else◌}
use Rattle.std.specs.declared.alloc.Global.{Global}
use Rattle.ot_c_words.specs.declared.word.IntegerType.{IntegerType}
use Rattle.ot_c_words.specs.declared.word.Name.{Name}
use Rattle.ot_c_expressions.specs.Tree.{left_of}
use Rattle.ot_c_statements.specs.Tree.{Site, S, Block, Assign, If, For, Task, Wait, Group, Yield, Call, Print, Show, Point, Body, End, Next}
use Rattle.ot_c_scope.specs.declared.reason.Reason.TheVariants as why
use Rattle.ot_c_scope.specs.declared.scope.Meaning.{Meaning}
use Rattle.ot_c_scope.specs.declared.scope.Meaning.TheVariants as m
use Rattle.ot_c_scope.specs.declared.scope.Pointee.{Pointee}
use Rattle.ot_c_scope.specs.Constants.{Typed, constant}
use Rattle.ot_c_scope.specs.Kinds.{is_word}
use Rattle.ot_c_scope.specs.Results.{Refusal, ◌>>=◌}
use Rattle.ot_c_arrays.specs.Arrays.{D, name_number, outside}

abbrev pub Names : Type 0
Names = List (String Global)

-- a place in an array of so many cells
abbrev pub place_in : ℕ → ℕ → Option Typed → Result ℕ Refusal
place_in at count None = Err (at, why.Pointee)
place_in at count (Some n) = if nat_lt n.0 count then Ok n.0 else Err (at, why.Pointee)

-- so many cells, where they are of type `uint64_t`, to which pointers point
abbrev pub pointed_count : ℕ → IntegerType → ℕ → Result ℕ Refusal
pointed_count at k n = if is_word k then Ok n else Err (at, why.OtherType)

-- how many cells an array has
abbrev pub count_by : ℕ → Option Meaning → Result ℕ Refusal
count_by at (Some (m.Cells k (Some n))) = pointed_count at k n
count_by at (Some (m.Cells k None)) = Err (at, why.Pointee)
count_by at (Some m.Nothing) = Err (at, why.Pointee)
count_by at (Some (m.Constant n k)) = Err (at, why.Pointee)
count_by at (Some (m.Pointer x p)) = Err (at, why.Pointee)
count_by at (Some (m.Function i)) = Err (at, why.Pointee)
count_by at None = Err (at, why.Pointee)

-- the cell of an array at a place that is a constant
abbrev pub pointee : Names → D → Site → Result Pointee Refusal
pointee names d c =
    name_number c.left c.array >>= λ array.
    count_by c.left (slice_get d.meanings array) >>= λ count.
    place_in (left_of c.index) count (constant (outside names d.meanings false) c.index) >>= λ place.
    Ok (record { array = array; place = place })

abbrev pub is_same : ℕ → ℕ → Pointee → Bool
is_same x i p = x == p.array && i == p.place

abbrev pub pointing_over : ℕ → D → ℕ → Pointee → Option Meaning → Result D Refusal
pointing_over at d p cell None = Err (at, why.NoName)
pointing_over at d p cell (Some m.Nothing) = Ok (record d { meanings = slice_set d.meanings p (m.Pointer cell.array cell.place) })
pointing_over at d p cell (Some (m.Pointer x i)) = if is_same x i cell then Ok d else Err (at, why.Pointee)
pointing_over at d p cell (Some (m.Constant n k)) = Err (at, why.Twice)
pointing_over at d p cell (Some (m.Cells k length)) = Err (at, why.Twice)
pointing_over at d p cell (Some (m.Function i)) = Err (at, why.Twice)

-- a name that means nothing yet, or points there already, points to a cell
abbrev pub pointing : ℕ → D → ℕ → Pointee → Result D Refusal
pointing at d p cell = pointing_over at d p cell (slice_get d.meanings p)

-- `uint64_t *p = &x[i];`, where the name of the pointer stands there
abbrev pub point : Names → ℕ → D → Name → Site → Result D Refusal
point names at d p c = pointee names d c >>= λ cell. name_number at p >>= λ n. pointing at d n cell

-- the pointers that statements declare
unfoldable mutual
  pub pointers_in : Names → D → S → Result D Refusal
  pointers_in names d (Block left b) = pointers_from names d b
  pointers_in names d (Assign left t sign e) = Ok d
  pointers_in names d (If left e b c) = pointers_from names d b >>= λ o. pointers_from names o c
  pointers_in names d (For left c b) = pointers_from names d b
  pointers_in names d (Task left cs b) = pointers_from names d b
  pointers_in names d (Wait left cs) = Ok d
  pointers_in names d (Group left cs b) = pointers_from names d b
  pointers_in names d (Yield left) = Ok d
  pointers_in names d (Call left f es) = Ok d
  pointers_in names d (Print left es) = Ok d
  pointers_in names d (Show left c n) = Ok d
  pointers_in names d (Point left p c) = point names left d p c

  pub pointers_from : Names → D → Body → Result D Refusal
  pointers_from names d End = Ok d
  pointers_from names d (Next s rest) = pointers_in names d s >>= λ o. pointers_from names o rest
