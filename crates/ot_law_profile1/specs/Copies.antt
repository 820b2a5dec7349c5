-- What the clauses of a task declare: the definition as it was before the second profile.
use Rattle.std.specs.Prelude.{ℕ, zero, suc, ◌+◌, ◌-◌, List, [], ◌∷◌, ◌++◌, map, flat_map, if◌then◌else◌, codes, Bool, ◌&&◌, ◌||◌, fold, Option, Some, None, unwrap_or}
use Rattle.serde_json.specs.Data.{Data, array, Items, no_items, item}
use Rattle.ot_model.specs.Programs.{Arrays}
use Rattle.ot_model.specs.Tree.{cells_of}
use Rattle.ot_law_profile1.specs.Tree.{S1, Set1, Add1, If1, Task1, Wait1, Group1, body_of1, Mode1, Reads1, Writes1, Adds1, Use1, same_mode1}
use Rattle.ot_program.specs.Meanings.{items, letters, Bindings, size, cell, section, value, is_word, cell_placed}
use Rattle.std.specs.List.{list_any}
use Rattle.ot_model.specs.Cells.{same_cell}
use Rattle.ot_model.specs.declared.expr.Cell.{Cell}
use Rattle.ot_model.specs.declared.expr.Section.{Section}

-- the kind of a clause: `in`, `out` and `inout` stand for depend, `red` for in_reduction (OpenMP API 5.2, sections
-- 15.9.5 and 5.5.10)
abbrev pub mode_of1 : Data → Option Mode1
mode_of1 t =
    if is_word t (codes "in") then Some Reads1 else
    (if is_word t (codes "out") then Some Writes1 else
    (if is_word t (codes "inout") then Some Writes1 else
    (if is_word t (codes "red") then Some Adds1 else None)))

-- what a clause declares its section's cells as
pub record Clause1 : Type 0 where
  pub mode : Mode1
  pub section : Section

module _ (shape : Arrays) (variables : Bindings) where
  -- `[word, section]`
  abbrev pub clause1 : Data → Clause1
  clause1 (array (item t (item a no_items))) = record { mode = unwrap_or (mode_of1 t) Reads1; section = section shape variables a }
  clause1 d = record { mode = Reads1; section = section shape variables d }

-- the cells that clauses name, each once
abbrev pub named_cells1 : List Clause1 → List Cell
named_cells1 clauses = fold cell_placed [] (flat_map (λ clause. cells_of clause.section) clauses)

-- ---- the modes

-- whether a clause of this mode names the cell
abbrev pub named_as1 : Mode1 → List Clause1 → Cell → Bool
named_as1 mode clauses c = list_any (λ clause. list_any (same_cell c) (cells_of clause.section) && same_mode1 mode clause.mode) clauses

-- Writes where some clause writes, else Reads where some clause reads, else Adds
abbrev pub mode_among1 : List Clause1 → Cell → Mode1
mode_among1 clauses c = if named_as1 Writes1 clauses c then Writes1 else (if named_as1 Reads1 clauses c then Reads1 else Adds1)

-- a cell under `red` and another kind
abbrev pub is_mixed1 : List Clause1 → Cell → Bool
is_mixed1 clauses c = named_as1 Adds1 clauses c && (named_as1 Writes1 clauses c || named_as1 Reads1 clauses c)

abbrev pub uses1 : List Clause1 → List Use1
uses1 clauses = map (λ c. record { cell = c; mode = mode_among1 clauses c }) (named_cells1 clauses)

-- The statements of a text as copies, and the tree that they are: the definition as it was before the second profile.

-- a statement's own parts as they stand in the text, its bodies among them; one turn of a `for`; or what has no form
pub data Text1 : Type 0 where
  SetText1 : (cell value : Data) → Text1
  AddText1 : (cell value : Data) → Text1
  IfText1 : (condition one two : Data) → Text1
  ForText1 : (variable first behind body : Data) → Text1
  Turn1 : Text1
  TaskText1 : (clauses body : Data) → Text1
  WaitText1 : Text1
  GroupText1 : (sections body : Data) → Text1
  ProgramText1 : (shows body : Data) → Text1
  NoForm1 : Text1

-- a statement in its place: how many bodies it stands in, and the variables around it
pub record Placed1 : Type 0 where
  pub level : ℕ
  pub variables : Bindings
  pub text : Text1

-- copies of statements, each with its bodies; a `for` has its turns in the place of its first body
mutual
  pub data Copy1 : Type 0 where
    At1 : Placed1 → Copies1 → Copies1 → Copy1

  pub data Copies1 : Type 0 where
    Done1 : Copies1
    Then1 : Copy1 → Copies1 → Copies1

abbrev pub at1 : ℕ → Bindings → Text1 → Copies1 → Copies1 → Copy1
at1 level variables text one two = At1 (record { level = level; variables = variables; text = text }) one two

-- a copy of a body for each of so many numbers from the first on
abbrev pub turns1 : ℕ → Bindings → (ℕ → Copies1) → ℕ → ℕ → Copies1
turns1 level variables body first zero = Done1
turns1 level variables body first (suc more) =
    Then1 (at1 level variables Turn1 (body first) Done1) (turns1 level variables body (suc first) more)

unfoldable mutual
  -- `[statement, ..]`
  pub copies1 : ℕ → Data → Bindings → Copies1
  copies1 level (array ds) variables = copies_of1 level ds variables
  copies1 level _ variables = Then1 (at1 level variables NoForm1 Done1 Done1) Done1

  pub copies_of1 : ℕ → Items → Bindings → Copies1
  copies_of1 level no_items variables = Done1
  copies_of1 level (item d ds) variables = Then1 (copy1 level d variables) (copies_of1 level ds variables)

  -- `["wait"]`, `["set", cell, value]`, `["add", cell, value]`, `["task", [clause, ..], body]`,
  -- `["group", [section, ..], body]`, `["if", value, body, body]` and `["for", variable, size, size, body]`
  pub copy1 : ℕ → Data → Bindings → Copy1
  copy1 level (array (item t no_items)) variables =
      if is_word t (codes "wait") then at1 level variables WaitText1 Done1 Done1 else
      at1 level variables NoForm1 Done1 Done1
  copy1 level (array (item t (item a (item b no_items)))) variables =
      if is_word t (codes "set") then at1 level variables (SetText1 a b) Done1 Done1 else
      (if is_word t (codes "add") then at1 level variables (AddText1 a b) Done1 Done1 else
      (if is_word t (codes "task") then at1 level variables (TaskText1 a b) (copies1 (level + 1) b variables) Done1 else
      (if is_word t (codes "group") then at1 level variables (GroupText1 a b) (copies1 (level + 1) b variables) Done1 else
      at1 level variables NoForm1 Done1 Done1)))
  copy1 level (array (item t (item a (item b (item c no_items))))) variables =
      if is_word t (codes "if")
      then at1 level variables (IfText1 a b c) (copies1 (level + 1) b variables) (copies1 (level + 1) c variables)
      else at1 level variables NoForm1 Done1 Done1
  copy1 level (array (item t (item a (item b (item c (item d no_items)))))) variables =
      if is_word t (codes "for")
      then at1 level variables (ForText1 a b c d) (turns1 level variables (λ n. copies1 (level + 1) d ((letters a, n) ∷ variables))
      (size variables b) (size variables c - size variables b)) Done1
      else at1 level variables NoForm1 Done1 Done1
  copy1 level _ variables = at1 level variables NoForm1 Done1 Done1

-- Expanded order: a statement before its bodies, and the first body before the second.
abbrev mutual
  pub in_copy1 : Copy1 → List Placed1
  in_copy1 (At1 p one two) = p ∷ (in_order1 one ++ in_order1 two)

  pub in_order1 : Copies1 → List Placed1
  in_order1 Done1 = []
  in_order1 (Then1 c rest) = in_copy1 c ++ in_order1 rest

-- ---- the tree

module _ (shape : Arrays) where
  -- a statement, its bodies given; a `for` is what its turns are
  abbrev pub statement1 : Bindings → Text1 → List S1 → List S1 → List S1
  statement1 variables (SetText1 a b) one two = Set1 (cell shape variables a) (value shape variables b) ∷ []
  statement1 variables (AddText1 a b) one two = Add1 (cell shape variables a) (value shape variables b) ∷ []
  statement1 variables (IfText1 a b c) one two = If1 (value shape variables a) (body_of1 one) (body_of1 two) ∷ []
  statement1 variables (ForText1 a b c d) one two = one
  statement1 variables Turn1 one two = one
  statement1 variables (TaskText1 a b) one two = Task1 (uses1 (map (clause1 shape variables) (items a))) (body_of1 one) ∷ []
  statement1 variables WaitText1 one two = Wait1 ∷ []
  statement1 variables (GroupText1 a b) one two = Group1 (flat_map cells_of (map (section shape variables) (items a))) (body_of1 one) ∷ []
  statement1 variables (ProgramText1 a b) one two = one
  statement1 variables NoForm1 one two = []

  abbrev mutual
    pub statement_of1 : Copy1 → List S1
    statement_of1 (At1 p one two) = statement1 p.variables p.text (statements_of1 one) (statements_of1 two)

    pub statements_of1 : Copies1 → List S1
    statements_of1 Done1 = []
    statements_of1 (Then1 c rest) = statement_of1 c ++ statements_of1 rest
