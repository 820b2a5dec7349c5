-- What is at fault in a program, with what is compared, and which of several faults is told.
use Rattle.std.specs.Prelude.{ℕ, [], ◌+◌, ◌==◌, nat_lt, nat_le, Bool, false, not, ◌&&◌, ◌||◌, if◌then◌else◌, List, ◌∷◌, ◌++◌, flat_map, is_some, unwrap_or, codes, ◌-◌, ◌^◌, min, Option, Some, None, length, map, option_map, option_and_then}
use Rattle.std.specs.List.{list_any}
use Rattle.serde_json.specs.Data.{Data, number, string, array, no_items, item}
use Rattle.ot_model.specs.Programs.{Arrays, arrays_of}
use Rattle.ot_model.specs.declared.expr.Op.TheVariants.{Plus}
use Rattle.ot_program.specs.Copies.{Text, SetText, AddText, FoldText, IfText, ForText, Turn, TaskText, WaitText, WaitForText, GroupText, GroupByText, ProgramText, NoForm, Placed}
use Rattle.ot_program.specs.Faults.{is_list, rank}
use Rattle.ot_program.specs.Limits.{max_nesting, max_depth, size_depth, depth_of, total, max_statements, max_turns, max_nodes, max_cells, Tally}
use Rattle.ot_program.specs.Meanings.{items, letters, Bindings, number_bound, sign_of, in_range, exact, size, is_called, length_of, op_of, fold_of, value, whole_number, is_name, is_word, is_one, is_two}
use Rattle.ot_program.specs.Requested.{requested_program}
use Rattle.ot_program.specs.declared.profile.Profile.{Profile}
use Rattle.ot_why_fault.specs.declared.why.Wanted.TheVariants as wanted
use Rattle.ot_model.specs.declared.expr.Op.{Op}
use Rattle.ot_program.specs.declared.fault.Refusal.{Refusal}
use Rattle.ot_program.specs.declared.fault.Refusal.TheVariants as told
use Rattle.ot_why_fault.specs.declared.why.Wanted.{Wanted}
use Rattle.ot_why_fault.specs.declared.why.Count.{Count}
use Rattle.serde_json.specs.View.{view}
use Rattle.ot_model.specs.declared.shape.ArrayShape.{ArrayShape}
use Rattle.ot_why_fault.specs.declared.why.Why.{Why as CodeWhy}
use Rattle.ot_why_fault.specs.declared.why.Why.TheVariants as w
use Rattle.ot_why_fault.specs.declared.find.Found.{Found}
use Rattle.ot_why_fault.specs.declared.own.Tally.{Tally as CodeTally}
use Rattle.std.specs.Option.{option_or, option_to_list}
use Rattle.ot_why_place.specs.Spots.{text_spots}
use Rattle.ot_why_mixed.specs.Mixed.{mixed_of}
use Rattle.ot_why_fault.specs.declared.why.Count.TheVariants.{Statements, Turns, Nodes, Cells}

-- a fault, with what is compared
pub data Why : Type 0 where
  -- the part is of no form, where this is wanted
  Form : (part : Data) → Wanted → Why
  -- the statement is of no form
  NoStatement : Why
  -- no loop around binds the variable
  Unbound : (name : List ℕ) → Why
  -- the number is no size
  TooGreat : ℕ → Why
  -- the operation of two sizes is none
  NotExact : Op → ℕ → ℕ → Why
  -- no array has this name
  Unknown : (name : List ℕ) → Why
  -- the array has no cell at this index, but so many
  NoCell : (name : List ℕ) → (index has : ℕ) → Why
  -- the array has no cells from this start on so many, but so many in all
  NoCells : (name : List ℕ) → (start len has : ℕ) → Why
  -- the section of this array, from this start on, is of no cell
  Empty : (name : List ℕ) → (start : ℕ) → Why
  -- a body stands in so many others
  Nested : (level : ℕ) → Why
  -- the expression is so deep
  Deep : (part : Data) → (depth : ℕ) → Why
  -- there are so many, and may be so many
  TooMany : Count → (has may : ℕ) → Why
  -- there are so many task statements, and may be so many
  TooManyTasks : (has may : ℕ) → Why
  -- the cell of this array at this index is declared under `red` and otherwise
  Mixed : (name : List ℕ) → (index : ℕ) → Why

-- a number as it is told: the greatest of 64 bits, or of 32, stands for those beyond
abbrev pub long : ℕ → ℕ
long n = min n (2 ^ 64 - 1)

abbrev pub short : ℕ → ℕ
short n = min n (2 ^ 32 - 1)

-- what a client is told of it
abbrev pub refusal_of : Why → Refusal
refusal_of (Form part wanted) = told.Form
refusal_of NoStatement = told.Form
refusal_of (Unbound name) = told.Size
refusal_of (TooGreat n) = told.Size
refusal_of (NotExact sign a b) = told.Size
refusal_of (Unknown name) = told.UnknownArray
refusal_of (NoCell name index has) = told.OutOfRange
refusal_of (NoCells name start len has) = told.OutOfRange
refusal_of (Empty name start) = told.EmptySection
refusal_of (Nested level) = told.TooLarge
refusal_of (Deep part depth) = told.TooLarge
refusal_of (TooMany count has may) = told.TooLarge
refusal_of (TooManyTasks has may) = told.TooManyTasks
refusal_of (Mixed name index) = told.MixedReduction

-- of two faults the one that is told: the first of the order, and of two in one place of it the first that is found
abbrev pub earlier : Why → Why → Why
earlier v w = if nat_lt (rank (refusal_of w)) (rank (refusal_of v)) then w else v

-- what is told after one fault more
abbrev pub why_noted : Option Why → Why → Option Why
why_noted None w = Some w
why_noted (Some v) w = Some (earlier v w)

-- what is told after some more
abbrev pub after : Option Why → List Why → Option Why
after told [] = told
after told (w ∷ ws) = after (why_noted told w) ws

-- The faults of a statement's own parts, each with what is compared. They are those of `ot_program`'s definition, in its order:
-- of each, which part is of no form and what is wanted there, or which name, number, index, length or depth has the fault.

-- a fault where a test fails
abbrev pub whys_unless : Bool → Why → List Why
whys_unless test why = if test then [] else why ∷ []

abbrev pub whys_no_list : Data → List Why
whys_no_list d = whys_unless (is_list d) (Form d wanted.List)

-- a list with the faults of each of its items
abbrev pub list_whys : (Data → List Why) → Data → List Why
list_whys whys d = whys_no_list d ++ flat_map whys (items d)

-- an expression that is too deep
abbrev pub whys_deep : Data → ℕ → List Why
whys_deep d depth = whys_unless (nat_le depth max_depth) (Deep d (long depth))

-- ---- names, variables and sizes

abbrev pub is_named : Data → Bool
is_named (string s) = is_name s
is_named _ = false

abbrev pub name_whys : Data → List Why
name_whys d = whys_unless (is_named d) (Form d wanted.Name)

abbrev pub variable_whys : Bindings → List ℕ → List Why
variable_whys variables s = whys_unless (is_name s) (Form (string s) wanted.Name) ++ whys_unless (is_some (number_bound variables s)) (Unbound s)

module _ (variables : Bindings) where
  unfoldable pub size_whys : Data → List Why
  size_whys (number n) =
      whys_unless (is_some (whole_number n)) (Form (number n) wanted.Size)
      ++ whys_unless (is_some (in_range (unwrap_or (whole_number n) 0))) (TooGreat (unwrap_or (whole_number n) 0))
  size_whys (string s) = variable_whys variables s
  size_whys (array (item t (item a (item b no_items)))) =
      whys_unless (is_some (sign_of t)) (Form t wanted.Sign) ++ ((size_whys a ++ size_whys b)
      ++ whys_unless (is_some (exact (sign_of t) (size variables a) (size variables b)))
      (NotExact (unwrap_or (sign_of t) Plus) (size variables a) (size variables b)))
  size_whys d = Form d wanted.Size ∷ []

-- ---- arrays, cells and sections, values, clauses

abbrev pub array_whys : Arrays → Data → List Why
array_whys shape name = name_whys name ++ whys_unless (list_any (is_called name) shape.arrays) (Unknown (letters name))

module _ (shape : Arrays) (variables : Bindings) where
  abbrev pub indexed_whys : Data → Data → List Why
  indexed_whys name index =
      (array_whys shape name ++ size_whys variables index)
      ++ (whys_unless (nat_lt (size variables index) (length_of shape name)) (NoCell (letters name) (size variables index) (length_of shape name))
      ++ whys_deep index (size_depth index))

  abbrev pub cell_whys : Data → List Why
  cell_whys (array (item t (item a (item b no_items)))) =
      whys_unless (is_word t (codes "c")) (Form (array (item t (item a (item b no_items)))) wanted.Cell) ++ indexed_whys a b
  cell_whys d = Form d wanted.Cell ∷ []

  -- of a section with this name, start and length
  abbrev pub section_of_whys : Data → Data → Data → List Why
  section_of_whys a b c =
      (array_whys shape a ++ (size_whys variables b ++ size_whys variables c))
      ++ ((whys_unless (nat_le (size variables b + size variables c) (length_of shape a))
      (NoCells (letters a) (size variables b) (size variables c) (length_of shape a))
      ++ whys_unless (not (size variables c == 0)) (Empty (letters a) (size variables b)))
      ++ (whys_deep b (size_depth b) ++ whys_deep c (size_depth c)))

  abbrev pub section_whys : Data → List Why
  section_whys (array (item a (item b (item c no_items)))) = section_of_whys a b c
  section_whys d = Form d wanted.Section ∷ []

  unfoldable pub value_whys : Data → List Why
  value_whys (number n) = whys_unless (is_some (whole_number n)) (Form (number n) wanted.Number)
  value_whys (string s) = variable_whys variables s
  value_whys (array (item t (item a (item b no_items)))) =
      if is_word t (codes "c") then indexed_whys a b else
      (if is_word t (codes "pick") then section_whys a ++ value_whys b else
      whys_unless (is_some (op_of t)) (Form t wanted.Operation) ++ (value_whys a ++ value_whys b))
  value_whys d = Form d wanted.Value ∷ []

  -- a value as a part of a statement
  abbrev pub expression_whys : Data → List Why
  expression_whys d = value_whys d ++ whys_deep d (depth_of (value shape variables d))

  -- a cell and the value that it is given
  abbrev pub target_whys : Data → Data → List Why
  target_whys a b = cell_whys a ++ expression_whys b

-- an operation of a fold or a group
abbrev pub fold_whys : Data → List Why
fold_whys op = whys_unless (is_some (fold_of op)) (Form op wanted.Fold)

-- the word of a clause without an operation
abbrev pub is_depend : Data → Bool
is_depend t = is_word t (codes "in") || (is_word t (codes "out") || is_word t (codes "inout"))

abbrev pub is_mode : Profile → Data → Bool
is_mode profile t = is_depend t || (is_one profile && is_word t (codes "red"))

-- the word and the operation of a clause that has one
abbrev pub red_whys : Data → Data → Data → List Why
red_whys clause t op = if is_word t (codes "red") then fold_whys op else Form clause wanted.Clause ∷ []

abbrev pub clause_whys : Arrays → Profile → Bindings → Data → List Why
clause_whys shape profile variables (array (item t (item a no_items))) =
    whys_unless (is_mode profile t) (Form (array (item t (item a no_items))) wanted.Clause) ++ section_whys shape variables a
clause_whys shape profile variables (array (item t (item op (item a no_items)))) =
    if is_two profile then red_whys (array (item t (item op (item a no_items)))) t op ++ section_whys shape variables a
    else Form (array (item t (item op (item a no_items)))) wanted.Clause ∷ []
clause_whys shape profile variables d = Form d wanted.Clause ∷ []

-- `red` is no clause of a wait
abbrev pub wait_clause_whys : Arrays → Bindings → Data → List Why
wait_clause_whys shape variables (array (item t (item a no_items))) =
    whys_unless (is_depend t) (Form (array (item t (item a no_items))) wanted.WaitClause) ++ section_whys shape variables a
wait_clause_whys shape variables d = Form d wanted.WaitClause ∷ []

-- ---- statements

-- a body of a statement that stands in so many
abbrev pub whys_nested : ℕ → List Why
whys_nested level = whys_unless (nat_lt level max_nesting) (Nested (short level))

module _ (shape : Arrays) (level : ℕ) (variables : Bindings) where
  abbrev pub group_whys : Data → Data → List Why
  group_whys a b = (list_whys (section_whys shape variables) a ++ whys_no_list b) ++ whys_nested level

  -- the faults of a statement, without cells of a task that are declared under `red` and otherwise
  abbrev pub text_whys : Text → List Why
  text_whys (SetText a b) = target_whys shape variables a b
  text_whys (AddText a b) = target_whys shape variables a b
  text_whys (FoldText op a b) = fold_whys op ++ target_whys shape variables a b
  text_whys (IfText a b c) = (expression_whys shape variables a ++ (whys_no_list b ++ whys_no_list c)) ++ whys_nested level
  text_whys (ForText a b c d) =
      (name_whys a ++ ((size_whys variables b ++ size_whys variables c) ++ whys_no_list d))
      ++ (whys_nested level ++ (whys_deep b (size_depth b) ++ whys_deep c (size_depth c)))
  text_whys Turn = []
  text_whys (TaskText profile a b) = (list_whys (clause_whys shape profile variables) a ++ whys_no_list b) ++ whys_nested level
  text_whys WaitText = []
  text_whys (WaitForText a) = list_whys (wait_clause_whys shape variables) a
  text_whys (GroupText a b) = group_whys a b
  text_whys (GroupByText op a b) = fold_whys op ++ group_whys a b
  text_whys (ProgramText a b) = group_whys a b
  text_whys NoForm = NoStatement ∷ []

-- What the code's values stand for.

abbrev pub why_by : CodeWhy → Why
why_by (w.Form part wanted) = Form (view part.now) wanted
why_by w.NoStatement = NoStatement
why_by (w.Unbound name) = Unbound name.now
why_by (w.TooGreat n) = TooGreat n
why_by (w.NotExact sign a b) = NotExact sign a b
why_by (w.Unknown name) = Unknown name.now
why_by (w.NoCell name index has) = NoCell name.now index has
why_by (w.NoCells name start len has) = NoCells name.now start len has
why_by (w.Empty name start) = Empty name.now start
why_by (w.Nested level) = Nested level
why_by (w.Deep part depth) = Deep (view part.now) depth
why_by (w.TooMany count has may) = TooMany count has may
why_by (w.TooManyTasks has may) = TooManyTasks has may
why_by (w.Mixed name index) = Mixed name.now index

abbrev pub shape_of : List ArrayShape → ℕ → Arrays
shape_of arrays tasks = record { arrays = arrays_of arrays; tasks = tasks }

-- the counts that these stand for
abbrev pub counts_of : Tally → CodeTally
counts_of n =
    record { statements = long n.statements; tasks = long n.tasks; turns = long n.turns; nodes = long n.nodes; cells = long n.cells }

-- a count that is past its limit
abbrev pub more_than : Count → ℕ → ℕ → List Why
more_than count has may = whys_unless (nat_le has may) (TooMany count has may)

-- the counts that are past their limits, in the order in which they are looked at
abbrev pub whys_past_limits : ℕ → CodeTally → List Why
whys_past_limits tasks n =
    more_than Statements n.statements max_statements ++ (more_than Turns n.turns max_turns
    ++ (more_than Nodes n.nodes max_nodes ++ (more_than Cells n.cells max_cells
    ++ whys_unless (nat_le n.tasks tasks) (TooManyTasks n.tasks tasks))))

-- The first fault of a program, and which of its entries has it. The entries are those of `ot_why_place`, in its order: the program
-- itself, statements, loops with each of their turns, and what is of no form.

-- ---- the faults of an entry

abbrev pub mixed_why : List ℕ × ℕ → Why
mixed_why cell = Mixed cell.0 cell.1

-- of a task, the first cell that its clauses declare under `red` and otherwise
abbrev pub mixed_whys : Arrays → Bindings → Text → List Why
mixed_whys shape variables (TaskText profile a b) = option_to_list (option_map mixed_why (mixed_of shape profile variables a))
mixed_whys shape variables text = []

-- where so much is counted up to there and with it
abbrev pub whys_at : Arrays → CodeTally → Placed → List Why
whys_at shape counts p =
    text_whys shape p.level p.variables p.text ++ (whys_past_limits shape.tasks counts ++ mixed_whys shape p.variables p.text)

module _ (shape : Arrays) where
  -- the faults of an entry behind others: those of its own parts, and each count that with it is past its limit
  abbrev pub whys_behind : List Placed → Placed → List Why
  whys_behind before p = whys_at shape (counts_of (total shape (before ++ p ∷ []))) p

  -- The first entry with a fault decides, and of its faults the first of the order. Told is how many stand before it.
  abbrev pub first_behind : List Placed → List Placed → Option (ℕ × Why)
  first_behind before [] = None
  first_behind before (p ∷ rest) =
      option_or (option_map (λ why. (short (length before), why)) (after None (whys_behind before p))) (first_behind (before ++ p ∷ []) rest)

  -- what is no program has no entry
  abbrev pub first_among : Data → List Placed → Option (ℕ × Why)
  first_among program [] = Some (0, Form program wanted.Program)
  first_among program (p ∷ rest) = first_behind [] (p ∷ rest)

  abbrev pub first_in_program : Data → Option (ℕ × Why)
  first_in_program program = first_among program (map (λ s. s.placed) (text_spots program))

  -- of the program that a request runs
  abbrev pub first_why : Data → Option (ℕ × Why)
  first_why request = option_and_then first_in_program (requested_program request)

abbrev pub found_by : Found → ℕ × Why
found_by found = (found.index, why_by found.why)
