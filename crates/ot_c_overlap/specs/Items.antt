-- The items of a program's `depend` clauses, each with the entry that has it and with the task in whose body that entry is.
use Rattle.std.specs.Prelude.{ℕ, zero, suc, Bool, true, false, not, ◌&&◌, ◌||◌, ◌+◌, ◌==◌, ◌++◌, if◌then◌else◌, List, [], ◌∷◌, map, flat_map, Option, Some, None, option_map, unwrap_or, codes}
use Rattle.serde_json.specs.Data.{Data, array, no_items, item}
use Rattle.ot_model.specs.Programs.{Arrays}
use Rattle.ot_model.specs.declared.expr.Section.{Section}
use Rattle.ot_program.specs.Copies.{Text, TaskText, WaitForText, GroupText, GroupByText, Placed, Copy, At, Copies, Done, Then}
use Rattle.ot_program.specs.Meanings.{items, Bindings, section, is_word}
use Rattle.ot_program.specs.Programs.{program_copy}
use Rattle.ot_program.specs.Requested.{ProgramForm, program_form, requested_program}
use Rattle.ot_c_overlap.specs.declared.item.Item.{Item}

-- a list item that a clause names: whether it writes there, and the section
abbrev pub ListItem : Type 0
ListItem = Bool × Section

abbrev pub item_of : ℕ → ℕ → ListItem → Item
item_of parent entry named = record { parent = parent; entry = entry; writes = named.0; section = named.1 }

-- ---- list items: a section is one, and so is each cell that an iterator names (OpenMP API 5.2, sections 3.2.5 and 3.2.6)

-- Whether a section, `[name, first, length]`, has a difference for its length. In what stands for C only that of an iterator has,
-- which counts from a number up to another.
abbrev pub is_difference : Data → Bool
is_difference (array (item t (item a (item b no_items)))) = is_word t (codes "-")
is_difference _ = false

abbrev pub is_iterated : Data → Bool
is_iterated (array (item name (item first (item length no_items)))) = is_difference length
is_iterated _ = false

-- so many cells of an array from an index on, one by one
abbrev pub each_cell : Bool → ℕ → ℕ → ℕ → List ListItem
each_cell writing a index zero = []
each_cell writing a index (suc n) = (writing, record { array = a; start = index; len = 1 }) ∷ each_cell writing a (index + 1) n

abbrev pub list_items : Bool → Bool → Section → List ListItem
list_items writing true s = each_cell writing s.array s.start s.len
list_items writing false s = (writing, s) ∷ []

-- ---- the clauses of a statement

-- The section of a `depend` clause, `[word, section]`. `red`, which may be `["red", op, section]`, stands for in_reduction, which is none;
-- where tasks take part by pointers it stands for `depend(in: ..)` too.
abbrev pub depends : Bool → Data → Option Data
depends reds (array (item t (item a no_items))) = if is_word t (codes "red") && not reds then None else Some a
depends reds (array (item t (item op (item a no_items)))) = if reds then Some a else None
depends reds _ = None

-- `in` doesn't write, nor does `red`
abbrev pub writes : Data → Bool
writes (array (item t (item a no_items))) = not (is_word t (codes "in") || is_word t (codes "red"))
writes _ = false

-- arrays of these names and lengths
abbrev pub over : List (List ℕ × ℕ) → Arrays
over arrays = record { arrays = arrays; tasks = 0 }

-- what items are over: arrays of these names and lengths, and whether `red` is an item
pub record Ground : Type 0 where
  pub arrays : List (List ℕ × ℕ)
  pub reds : Bool

abbrev pub ground : List (List ℕ × ℕ) → Bool → Ground
ground arrays reds = record { arrays = arrays; reds = reds }

abbrev pub section_by : Ground → Bindings → Bool → Option Data → List ListItem
section_by ground variables writing None = []
section_by ground variables writing (Some named) = list_items writing (is_iterated named) (section (over ground.arrays) variables named)

abbrev pub section_as : Ground → Bindings → Data → List ListItem
section_as ground variables clause = section_by ground variables (writes clause) (depends ground.reds clause)

abbrev pub sections_among : Ground → Bindings → List Data → List ListItem
sections_among ground variables clauses = flat_map (section_as ground variables) clauses

abbrev pub sections_in : Ground → Bindings → Data → List ListItem
sections_in ground variables clauses = sections_among ground variables (items clauses)

-- A wait with clauses waits as an empty task that has them (OpenMP API 5.2, section 15.5).
abbrev pub sections_at : Ground → Bindings → Text → List ListItem
sections_at ground variables (TaskText profile clauses body) = sections_in ground variables clauses
sections_at ground variables (WaitForText clauses) = sections_in ground variables clauses
sections_at ground variables text = []

-- ---- the entries of a program: itself, its statements, its loops with each of their turns

-- what was met so far: so many entries, and these items
pub record Met : Type 0 where
  pub entries : ℕ
  pub items : List Item

-- an entry in the body of the task of the entry `parent`, or of the program itself, which is entry 0
abbrev pub met_at : Ground → ℕ → Placed → Met → Met
met_at ground parent p m =
    record { entries = m.entries + 1; items = m.items ++ map (item_of parent m.entries) (sections_at ground p.variables p.text) }

-- In what stands for C a group in the program's own body is a parallel region. What it creates are children of an implicit task of
-- its own, and so no siblings of what another region creates (OpenMP API 5.2, sections 1.2.5 and 10.1).
abbrev pub region_of : ℕ → ℕ → ℕ
region_of parent entry = if parent == 0 then entry else parent

-- the entry of the task in whose body the bodies of an entry are, and for a region that of its group
abbrev pub task_of : ℕ → ℕ → Text → ℕ
task_of parent entry (TaskText profile clauses body) = entry
task_of parent entry (GroupText sections body) = region_of parent entry
task_of parent entry (GroupByText op sections body) = region_of parent entry
task_of parent entry text = parent

abbrev mutual
  -- a statement, then those in its bodies
  pub met_one : Ground → ℕ → Copy → Met → Met
  met_one ground parent (At p one two) m =
      items_met_in ground (task_of parent m.entries p.text) two (items_met_in ground (task_of parent m.entries p.text) one (met_at ground parent p m))

  pub items_met_in : Ground → ℕ → Copies → Met → Met
  items_met_in ground parent Done m = m
  items_met_in ground parent (Then c rest) m = items_met_in ground parent rest (met_one ground parent c m)

abbrev pub none_met : Met
none_met = record { entries = 0; items = [] }

abbrev pub program_items : Ground → ProgramForm → List Item
program_items ground f = (met_one ground 0 (program_copy f.profile f.shows f.body) none_met).items

abbrev pub text_items : Ground → Data → List Item
text_items ground program = unwrap_or (option_map (program_items ground) (program_form program)) []

-- of the program that a request runs
abbrev pub items_of : Ground → Data → List Item
items_of ground request = unwrap_or (option_map (text_items ground) (requested_program request)) []
