-- Numbers, names and words of programs (docs/LANGUAGE.md, "JSON").
use Rattle.std.specs.Prelude.{ℕ, Bool, bytes_eq, nat_lt, nat_le, ◌+◌, ◌-◌, ◌*◌, ◌^◌, List, [], ◌∷◌, find, Option, Some, None, option_map, unwrap_or, if◌then◌else◌, codes, false, ◌==◌, ◌&&◌, ◌||◌, length, slice_index, true, not, map, flat_map, fold}
use Rattle.std.specs.List.{position_or_len, list_all, list_any}
use Rattle.serde_json.specs.Data.{Data, number, string, array, Items, no_items, item, Num, unsigned, negative, float}
use Rattle.ot_model.specs.Programs.{Arrays}
use Rattle.ot_model.specs.Signs.{word, operations, identifier, folds}
use Rattle.ot_model.specs.Tree.{E, Literal, CellAt, Apply, PickFrom, cells_of}
use Rattle.ot_model.specs.declared.expr.Cell.{Cell}
use Rattle.ot_model.specs.declared.expr.Op.{Op}
use Rattle.ot_model.specs.declared.expr.Op.TheVariants.{Plus, Minus, Times}
use Rattle.ot_model.specs.declared.expr.Section.{Section}
use Rattle.ot_model.specs.declared.fold.Fold.{Fold}
use Rattle.ot_model.specs.declared.fold.Fold.TheVariants as by
use Rattle.ot_model.specs.declared.stmt.Mode.{Mode}
use Rattle.ot_model.specs.declared.stmt.Mode.TheVariants.{Reads, Writes, Folds}
use Rattle.ot_program.specs.declared.profile.Profile.{Profile}
use Rattle.ot_program.specs.declared.profile.Profile.TheVariants.{One, Two}
use Rattle.std.specs.Option.{option_or}
use Rattle.ot_model.specs.Cells.{same_cell, is_before, is_fold, same_mode}
use Rattle.ot_model.specs.declared.stmt.Use.{Use}

-- A whole number from 0 to 2^64 - 1. What is written with a point or an exponent is none, and `-0`
-- isn't either.
abbrev pub whole_number : Num → Option ℕ
whole_number (unsigned n) = if nat_lt n (2 ^ 64) then Some n else None
whole_number (negative z) = None
whole_number (float x) = None

-- a to z
abbrev pub is_letter : ℕ → Bool
is_letter b = nat_le 97 b && nat_le b 122

-- 0 to 9
abbrev pub is_digit : ℕ → Bool
is_digit b = nat_le 48 b && nat_le b 57

-- a letter, a digit or `_`
abbrev pub is_name_byte : ℕ → Bool
is_name_byte b = is_letter b || is_digit b || b == 95

-- 1 to 16 bytes: a letter, then letters, digits and `_`
abbrev pub is_name : List ℕ → Bool
is_name bytes = nat_lt 0 (length bytes) && nat_le (length bytes) 16 && is_letter (slice_index bytes 0) && list_all is_name_byte bytes

-- the string that is this word
abbrev pub is_word : Data → List ℕ → Bool
is_word (string s) word = bytes_eq s word
is_word _ word = false

-- What texts denote: variables, sizes, cells, sections, values and clauses (docs/LANGUAGE.md, "Forms"). Each
-- text denotes something: where a part has a fault, what is said of the whole means nothing, and the fault is told.

-- the items of a list
abbrev pub each : Items → List Data
each no_items = []
each (item d ds) = d ∷ each ds

abbrev pub items : Data → List Data
items (array ds) = each ds
items _ = []

-- ---- words

-- an operation of sizes
abbrev pub sign_of : Data → Option Op
sign_of t = find (λ op. is_word t (word op)) (Plus ∷ Minus ∷ Times ∷ [])

-- an operation of values
abbrev pub op_of : Data → Option Op
op_of t = find (λ op. is_word t (word op)) operations

-- an operation of folds and reductions (OpenMP API 5.2, section 5.5.3)
abbrev pub fold_of : Data → Option Fold
fold_of t = find (λ op. is_word t (identifier op)) folds

abbrev pub operation : Data → Fold
operation t = unwrap_or (fold_of t) by.Plus

-- `red` without an operation, which profile 1 has alone: it folds by `+`
abbrev pub red_of : Profile → Data → Option Mode
red_of One t = if is_word t (codes "red") then Some (Folds by.Plus) else None
red_of Two t = None

-- the kind of a clause: `in`, `out` and `inout` stand for depend, `red` for in_reduction (OpenMP API 5.2, sections
-- 15.9.5 and 5.5.10)
abbrev pub mode_of : Profile → Data → Option Mode
mode_of profile t =
    if is_word t (codes "in") then Some Reads else
    (if is_word t (codes "out") then Some Writes else
    (if is_word t (codes "inout") then Some Writes else red_of profile t))

-- `red` with an operation, which profile 2 has alone
abbrev pub red_by : Data → Data → Option Mode
red_by t op = if is_word t (codes "red") then option_map Folds (fold_of op) else None

-- ---- variables

abbrev pub letters : Data → List ℕ
letters (string s) = s
letters _ = []

-- the variables around a text with the numbers that they stand for, the innermost first
abbrev pub Bindings : Type 0
Bindings = List (List ℕ × ℕ)

-- The number of a name. An inner variable hides an outer one of the same name.
abbrev pub number_bound : Bindings → List ℕ → Option ℕ
number_bound [] name = None
number_bound (b ∷ outer) name = if bytes_eq b.0 name then Some b.1 else number_bound outer name

-- ---- sizes

-- a number from 0 to 2^32 - 1
abbrev pub in_range : ℕ → Option ℕ
in_range n = if nat_lt n (2 ^ 32) then Some n else None

-- the exact result, where there is one in that range
abbrev pub exact : Option Op → ℕ → ℕ → Option ℕ
exact (Some Plus) a b = in_range (a + b)
exact (Some Minus) a b = if nat_le b a then in_range (a - b) else None
exact (Some Times) a b = in_range (a * b)
exact _ a b = None

module _ (variables : Bindings) where
  -- a number, a variable, or `[op, size, size]`
  unfoldable pub size : Data → ℕ
  size (number n) = unwrap_or (whole_number n) 0
  size (string s) = unwrap_or (number_bound variables s) 0
  size (array (item t (item a (item b no_items)))) = unwrap_or (exact (sign_of t) (size a) (size b)) 0
  size _ = 0

-- ---- arrays, cells and sections, values, clauses

abbrev pub is_called : Data → List ℕ × ℕ → Bool
is_called name a = bytes_eq a.0 (letters name)

-- the position of the array of this name, and how many cells it has
abbrev pub position_of : Arrays → Data → ℕ
position_of shape name = position_or_len (is_called name) shape.arrays

abbrev pub length_of : Arrays → Data → ℕ
length_of shape name = unwrap_or (option_map (λ a. a.1) (find (is_called name) shape.arrays)) 0

-- what a clause declares its section's cells as
pub record Clause : Type 0 where
  pub mode : Mode
  pub section : Section

module _ (shape : Arrays) (variables : Bindings) where
  -- the cell of an array's name and an index
  abbrev pub cell_indexed : Data → Data → Cell
  cell_indexed name index = record { array = position_of shape name; index = size variables index }

  -- `["c", name, size]`
  abbrev pub cell : Data → Cell
  cell (array (item t (item a (item b no_items)))) = cell_indexed a b
  cell _ = record { array = 0; index = 0 }

  -- `[name, size, size]`
  abbrev pub section : Data → Section
  section (array (item a (item b (item c no_items)))) =
      record { array = position_of shape a; start = size variables b; len = size variables c }
  section _ = record { array = 0; start = 0; len = 0 }

  -- a number, a variable, a cell, `["pick", section, value]`, or `[op, value, value]`
  unfoldable pub value : Data → E
  value (number n) = Literal (unwrap_or (whole_number n) 0)
  value (string s) = Literal (unwrap_or (number_bound variables s) 0)
  value (array (item t (item a (item b no_items)))) =
      if is_word t (codes "c") then CellAt (cell_indexed a b) else
      (if is_word t (codes "pick") then PickFrom (section a) (value b) else
      Apply (unwrap_or (op_of t) Plus) (value a) (value b))
  value _ = Literal 0

-- `[word, section]`, and in profile 2 `["red", op, section]`
abbrev pub clause : Arrays → Profile → Bindings → Data → Clause
clause shape profile variables (array (item t (item a no_items))) =
    record { mode = unwrap_or (mode_of profile t) Reads; section = section shape variables a }
clause shape Two variables (array (item t (item op (item a no_items)))) =
    record { mode = unwrap_or (red_by t op) Reads; section = section shape variables a }
clause shape profile variables d = record { mode = Reads; section = section shape variables d }

-- A clause of a wait has no `red`: it is a depend clause (OpenMP API 5.2, section 15.9.5).
abbrev pub wait_clause : Arrays → Bindings → Data → Clause
wait_clause shape variables (array (item t (item a no_items))) =
    record { mode = unwrap_or (mode_of Two t) Reads; section = section shape variables a }
wait_clause shape variables d = record { mode = Reads; section = section shape variables d }

-- The profiles: each has forms that the other one hasn't (docs/LANGUAGE.md, "Forms").

abbrev pub is_one : Profile → Bool
is_one One = true
is_one Two = false

abbrev pub is_two : Profile → Bool
is_two One = false
is_two Two = true

-- the profile that a program's first word names
abbrev pub profile_of : Data → Option Profile
profile_of t =
    if is_word t (codes "program") then Some One else
    (if is_word t (codes "program2") then Some Two else None)

-- What the clauses of a task declare: cells in order, each once, with one mode (docs/LANGUAGE.md, "Forms", on
-- declarations).

-- ---- the cells, by array and then by index

-- one more in its place, unless it is there
abbrev pub cell_placed : List Cell → Cell → List Cell
cell_placed [] c = c ∷ []
cell_placed (d ∷ ds) c = if is_before c d then c ∷ d ∷ ds else (if same_cell c d then d ∷ ds else d ∷ cell_placed ds c)

-- the cells that clauses name, each once
abbrev pub named_cells : List Clause → List Cell
named_cells clauses = fold cell_placed [] (flat_map (λ clause. cells_of clause.section) clauses)

-- ---- the modes

-- whether a clause names the cell
abbrev pub names : Cell → Clause → Bool
names c clause = list_any (same_cell c) (cells_of clause.section)

-- whether a clause of this mode names the cell
abbrev pub named_as : Mode → List Clause → Cell → Bool
named_as mode clauses c = list_any (λ clause. names c clause && same_mode mode clause.mode) clauses

abbrev pub operation_in : Mode → Option Fold
operation_in (Folds op) = Some op
operation_in mode = None

-- what the first clause that folds the cell folds it by
abbrev pub first_fold : List Clause → Cell → Option Fold
first_fold [] c = None
first_fold (clause ∷ rest) c = if names c clause then option_or (operation_in clause.mode) (first_fold rest c) else first_fold rest c

-- Writes where some clause writes, else Reads where some clause reads, else the fold of the first
abbrev pub mode_among : List Clause → Cell → Mode
mode_among clauses c =
    if named_as Writes clauses c then Writes else
    (if named_as Reads clauses c then Reads else Folds (unwrap_or (first_fold clauses c) by.Plus))

-- a clause names the cell in another mode than this one
abbrev pub named_otherwise : Mode → List Clause → Cell → Bool
named_otherwise mode clauses c = list_any (λ clause. names c clause && not (same_mode mode clause.mode)) clauses

-- a clause folds the cell, and another names it in another mode: so it is under `red` and another kind, or under `red` with
-- two operations
abbrev pub is_mixed : List Clause → Cell → Bool
is_mixed clauses c = list_any (λ clause. names c clause && (is_fold clause.mode && named_otherwise clause.mode clauses c)) clauses

abbrev pub uses : List Clause → List Use
uses clauses = map (λ c. record { cell = c; mode = mode_among clauses c }) (named_cells clauses)
