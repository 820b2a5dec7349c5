-- The parts of statements: arrays, cells and sections.
use Rattle.ot_model.specs.Programs.{Arrays}
use Rattle.ot_model.specs.declared.expr.Cell.{Cell}
use Rattle.ot_model.specs.declared.expr.Section.{Section}
use Rattle.ot_program.specs.Meanings.{Bindings, is_name, is_word, op_of, whole_number, mode_of, red_by}
use Rattle.ot_program.specs.walk.Reading.{◌>>=◌, both_of, each_of}
use Rattle.ot_program.specs.walk.Sizes.{size_of, shallow, variable_of}
use Rattle.ot_program.specs.declared.fault.Refusal.TheVariants.{Form, UnknownArray, OutOfRange, EmptySection, TooLarge, MixedReduction}
use Rattle.ot_program.specs.declared.fault.Refusal.{Refusal}
use Rattle.ot_program.specs.declared.shape.KnownArray.{KnownArray}
use Rattle.serde_json.specs.Data.{Data, array, no_items, item, string, number}
use Rattle.std.specs.Prelude.{ℕ, suc, List, [], ◌∷◌, Option, Some, None, Result, Ok, Err, if◌then◌else◌, ◌+◌, ◌==◌, nat_lt, nat_le, bytes_eq, codes}
use Rattle.ot_model.specs.Tree.{E, Literal, CellAt, Apply, PickFrom}
use Rattle.ot_model.specs.declared.expr.Op.{Op}
use Rattle.ot_program.specs.Limits.{max_depth, depth_of}
use Rattle.ot_model.specs.declared.stmt.Mode.{Mode}
use Rattle.ot_model.specs.declared.stmt.Use.{Use}
use Rattle.ot_program.specs.walk.Namings.{Named, name_clause}
use Rattle.ot_program.specs.declared.clause.Clause.{Clause}
use Rattle.ot_program.specs.declared.profile.Profile.{Profile}
use Rattle.ot_program.specs.declared.profile.Profile.TheVariants.{One, Two}
use Rattle.std.specs.List.{fold}

-- the array of this name, counted from a position on
abbrev pub known_from : ℕ → List (List ℕ × ℕ) → List ℕ → Option KnownArray
known_from position [] name = None
known_from position (a ∷ rest) name =
    if bytes_eq a.0 name then Some (record { position = position; len = a.1 }) else known_from (suc position) rest name

abbrev pub known_of : Option KnownArray → Result KnownArray Refusal
known_of None = Err UnknownArray
known_of (Some known) = Ok known

-- an array by its name
abbrev pub array_of : Arrays → Data → Result KnownArray Refusal
array_of shape (string s) = if is_name s then known_of (known_from 0 shape.arrays s) else Err Form
array_of shape _ = Err Form

-- the cell of an array at an index below its length
abbrev pub cell_in : KnownArray → ℕ → Result Cell Refusal
cell_in known index =
    if nat_lt index known.len then Ok (record { array = known.position; index = index }) else Err OutOfRange

-- the cell of a name and an index
abbrev pub cell_at : Arrays → Bindings → Data → Data → Result Cell Refusal
cell_at shape variables name index = do
  p ← both_of (array_of shape name) (size_of variables index)
  cell ← cell_in p.0 p.1
  fits ← shallow index
  Ok cell

-- `["c", name, size]`
abbrev pub cell_of : Arrays → Bindings → Data → Result Cell Refusal
cell_of shape variables (array (item t (item a (item b no_items)))) =
    if is_word t (codes "c") then cell_at shape variables a b else Err Form
cell_of shape variables _ = Err Form

-- the section of an array from a start on, which ends in the array and has at least one cell
-- (an array section, OpenMP API 5.2, section 3.2.5)
abbrev pub section_in : KnownArray → ℕ → ℕ → Result Section Refusal
section_in known start len =
    if nat_le (start + len) known.len
    then (if len == 0 then Err EmptySection else Ok (record { array = known.position; start = start; len = len }))
    else Err OutOfRange

-- the section of a name, a start and a length
abbrev pub section_at : Arrays → Bindings → Data → Data → Data → Result Section Refusal
section_at shape variables name start len = do
  p ← both_of (array_of shape name) (both_of (size_of variables start) (size_of variables len))
  section ← section_in p.0 p.1.0 p.1.1
  fit ← both_of (shallow start) (shallow len)
  Ok section

-- `[name, size, size]`
abbrev pub section_of : Arrays → Bindings → Data → Result Section Refusal
section_of shape variables (array (item a (item b (item c no_items)))) = section_at shape variables a b c
section_of shape variables _ = Err Form

-- `[section, ..]`
abbrev pub sections_of : Arrays → Bindings → Data → Result (List Section) Refusal
sections_of shape variables (array ds) = each_of (section_of shape variables) ds
sections_of shape variables _ = Err Form

-- Values: numbers, variables, cells, operations on values, and picks.

abbrev pub literal_of : Option ℕ → Result E Refusal
literal_of None = Err Form
literal_of (Some n) = Ok (Literal n)

abbrev pub cell_value : Result Cell Refusal → Result E Refusal
cell_value read = do
  c ← read
  Ok (CellAt c)

abbrev pub operation : Option Op → Result E Refusal → Result E Refusal → Result E Refusal
operation None one two = Err Form
operation (Some op) one two = do
  p ← both_of one two
  Ok (Apply op p.0 p.1)

-- the number that a variable stands for
abbrev pub variable_value : Result ℕ Refusal → Result E Refusal
variable_value read = do
  n ← read
  Ok (Literal n)

abbrev pub pick_of : Result Section Refusal → Result E Refusal → Result E Refusal
pick_of section value = do
  p ← both_of section value
  Ok (PickFrom p.0 p.1)

-- a number, a variable, `["c", name, size]`, `["pick", section, value]`, or `[op, value, value]`
unfoldable pub value_of : Arrays → Bindings → Data → Result E Refusal
value_of shape variables (number n) = literal_of (whole_number n)
value_of shape variables (string s) = variable_value (variable_of variables s)
value_of shape variables (array (item t (item a (item b no_items)))) =
    if is_word t (codes "c") then cell_value (cell_at shape variables a b) else
    (if is_word t (codes "pick") then pick_of (section_of shape variables a) (value_of shape variables b) else
    operation (op_of t) (value_of shape variables a) (value_of shape variables b))
value_of shape variables _ = Err Form

abbrev pub not_too_deep : E → Result E Refusal
not_too_deep e = if nat_le (depth_of e) max_depth then Ok e else Err TooLarge

-- a value as a part of a statement
abbrev pub expression_of : Arrays → Bindings → Data → Result E Refusal
expression_of shape variables d = value_of shape variables d >>= not_too_deep

-- Clauses and declarations, as they are read.

abbrev pub clause_at : Option Mode → Result Section Refusal → Result Clause Refusal
clause_at None section = Err Form
clause_at (Some mode) section = do
  s ← section
  Ok (record { mode = mode; section = s })

-- the mode of `red` with an operation
abbrev pub folded_of : Profile → Data → Data → Option Mode
folded_of One t op = None
folded_of Two t op = red_by t op

-- `[word, section]` and `["red", op, section]`
abbrev pub clause_of : Arrays → Profile → Bindings → Data → Result Clause Refusal
clause_of shape profile variables (array (item t (item a no_items))) = clause_at (mode_of profile t) (section_of shape variables a)
clause_of shape profile variables (array (item t (item op (item a no_items)))) =
    clause_at (folded_of profile t op) (section_of shape variables a)
clause_of shape profile variables _ = Err Form

-- `[clause, ..]`
abbrev pub clauses_of : Arrays → Profile → Bindings → Data → Result (List Clause) Refusal
clauses_of shape profile variables (array ds) = each_of (clause_of shape profile variables) ds
clauses_of shape profile variables _ = Err Form

-- `[word, section]` of a wait
abbrev pub wait_clause_of : Arrays → Bindings → Data → Result Clause Refusal
wait_clause_of shape variables (array (item t (item a no_items))) = clause_at (mode_of Two t) (section_of shape variables a)
wait_clause_of shape variables _ = Err Form

-- `[clause, ..]` of a wait
abbrev pub wait_clauses_of : Arrays → Bindings → Data → Result (List Clause) Refusal
wait_clauses_of shape variables (array ds) = each_of (wait_clause_of shape variables) ds
wait_clauses_of shape variables _ = Err Form

-- a cell with its mode
abbrev pub use_of : (ℕ × ℕ) × Option Mode → Result Use Refusal
use_of (key, None) = Err MixedReduction
use_of (key, Some mode) = Ok (record { cell = record { array = key.0; index = key.1 }; mode = mode })

abbrev pub uses_of : Named → Result (List Use) Refusal
uses_of [] = Ok []
uses_of (n ∷ ns) = do
  u ← use_of n
  us ← uses_of ns
  Ok (u ∷ us)

-- the declaration of clauses: the cells in their order, each once, with one mode
abbrev pub declaration : List Clause → Result (List Use) Refusal
declaration clauses = uses_of (fold name_clause [] clauses)
