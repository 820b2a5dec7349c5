-- The faults of a statement's own parts, each by itself (docs/LANGUAGE.md, "Refusals", each code). What is said of a
-- part that needs another is said of what this other one denotes; where that has a fault, its own fault comes first
-- in the order.
use Rattle.std.specs.Prelude.{ℕ, ◌+◌, ◌==◌, nat_lt, nat_le, Bool, true, false, not, if◌then◌else◌, List, [], ◌∷◌, ◌++◌, map, flat_map, is_some, unwrap_or, codes}
use Rattle.std.specs.List.{list_any}
use Rattle.serde_json.specs.Data.{Data, number, string, array, no_items, item}
use Rattle.ot_model.specs.Programs.{Arrays}
use Rattle.ot_program.specs.Copies.{Text, SetText, AddText, FoldText, IfText, ForText, Turn, TaskText, WaitText, WaitForText, GroupText, GroupByText, ProgramText, NoForm, Placed}
use Rattle.ot_program.specs.Meanings.{named_cells, is_mixed, items, Bindings, number_bound, sign_of, in_range, exact, size, is_called, length_of, op_of, fold_of, value, mode_of, red_by, Clause, clause, whole_number, is_name, is_word}
use Rattle.ot_program.specs.Limits.{max_nesting, max_depth, max_statements, max_turns, max_nodes, max_cells, size_depth, depth_of, Tally}
use Rattle.ot_program.specs.declared.fault.Refusal.{Refusal}
use Rattle.ot_program.specs.declared.fault.Refusal.TheVariants.{Form, Size, UnknownArray, OutOfRange, EmptySection, TooLarge, TooManyTasks, MixedReduction}
use Rattle.ot_program.specs.declared.profile.Profile.{Profile}
use Rattle.ot_program.specs.declared.profile.Profile.TheVariants.{Two}

-- a fault where a test fails
abbrev pub unless : Bool → Refusal → List Refusal
unless test c = if test then [] else c ∷ []

-- that a part is a list; what stands in it isn't looked at
abbrev pub is_list : Data → Bool
is_list (array ds) = true
is_list _ = false

abbrev pub no_list : Data → List Refusal
no_list d = unless (is_list d) Form

-- a list with the faults of each of its items
abbrev pub list_faults : (Data → List Refusal) → Data → List Refusal
list_faults faults d = no_list d ++ flat_map faults (items d)

-- an expression that is too deep
abbrev pub deep : ℕ → List Refusal
deep depth = unless (nat_le depth max_depth) TooLarge

-- ---- names, variables and sizes

abbrev pub name_faults : Data → List Refusal
name_faults (string s) = unless (is_name s) Form
name_faults _ = Form ∷ []

abbrev pub variable_faults : Bindings → List ℕ → List Refusal
variable_faults variables s = unless (is_name s) Form ++ unless (is_some (number_bound variables s)) Size

module _ (variables : Bindings) where
  -- each part of a size is exact and in its range
  unfoldable pub size_faults : Data → List Refusal
  size_faults (number n) = unless (is_some (whole_number n)) Form ++ unless (is_some (in_range (unwrap_or (whole_number n) 0))) Size
  size_faults (string s) = variable_faults variables s
  size_faults (array (item t (item a (item b no_items)))) =
      unless (is_some (sign_of t)) Form ++ ((size_faults a ++ size_faults b)
      ++ unless (is_some (exact (sign_of t) (size variables a) (size variables b))) Size)
  size_faults _ = Form ∷ []

-- ---- arrays, cells and sections, values, clauses

abbrev pub array_faults : Arrays → Data → List Refusal
array_faults shape name = name_faults name ++ unless (list_any (is_called name) shape.arrays) UnknownArray

module _ (shape : Arrays) (variables : Bindings) where
  abbrev pub indexed_faults : Data → Data → List Refusal
  indexed_faults name index =
      (array_faults shape name ++ size_faults variables index)
      ++ (unless (nat_lt (size variables index) (length_of shape name)) OutOfRange ++ deep (size_depth index))

  abbrev pub cell_faults : Data → List Refusal
  cell_faults (array (item t (item a (item b no_items)))) = unless (is_word t (codes "c")) Form ++ indexed_faults a b
  cell_faults _ = Form ∷ []

  abbrev pub section_faults : Data → List Refusal
  section_faults (array (item a (item b (item c no_items)))) =
      (array_faults shape a ++ (size_faults variables b ++ size_faults variables c))
      ++ ((unless (nat_le (size variables b + size variables c) (length_of shape a)) OutOfRange
      ++ unless (not (size variables c == 0)) EmptySection)
      ++ (deep (size_depth b) ++ deep (size_depth c)))
  section_faults _ = Form ∷ []

  unfoldable pub value_faults : Data → List Refusal
  value_faults (number n) = unless (is_some (whole_number n)) Form
  value_faults (string s) = variable_faults variables s
  value_faults (array (item t (item a (item b no_items)))) =
      if is_word t (codes "c") then indexed_faults a b else
      (if is_word t (codes "pick") then section_faults a ++ value_faults b else
      unless (is_some (op_of t)) Form ++ (value_faults a ++ value_faults b))
  value_faults _ = Form ∷ []

  -- a value as a part of a statement
  abbrev pub expression_faults : Data → List Refusal
  expression_faults d = value_faults d ++ deep (depth_of (value shape variables d))

abbrev pub clause_faults : Arrays → Profile → Bindings → Data → List Refusal
clause_faults shape profile variables (array (item t (item a no_items))) =
    unless (is_some (mode_of profile t)) Form ++ section_faults shape variables a
clause_faults shape Two variables (array (item t (item op (item a no_items)))) =
    unless (is_some (red_by t op)) Form ++ section_faults shape variables a
clause_faults shape profile variables _ = Form ∷ []

-- `red` is no clause of a wait
abbrev pub wait_clause_faults : Arrays → Bindings → Data → List Refusal
wait_clause_faults shape variables (array (item t (item a no_items))) =
    unless (is_some (mode_of Two t)) Form ++ section_faults shape variables a
wait_clause_faults shape variables _ = Form ∷ []

-- an operation of a fold or a group
abbrev pub fold_faults : Data → List Refusal
fold_faults op = unless (is_some (fold_of op)) Form

-- ---- statements

abbrev pub faults_mixed : List Clause → List Refusal
faults_mixed clauses = unless (not (list_any (is_mixed clauses) (named_cells clauses))) MixedReduction

-- a body of a statement that stands in so many
abbrev pub faults_nested : ℕ → List Refusal
faults_nested level = unless (nat_lt level max_nesting) TooLarge

module _ (shape : Arrays) where
  abbrev pub text_faults : ℕ → Bindings → Text → List Refusal
  text_faults level variables (SetText a b) = cell_faults shape variables a ++ expression_faults shape variables b
  text_faults level variables (AddText a b) = cell_faults shape variables a ++ expression_faults shape variables b
  text_faults level variables (FoldText op a b) =
      fold_faults op ++ (cell_faults shape variables a ++ expression_faults shape variables b)
  text_faults level variables (IfText a b c) = (expression_faults shape variables a ++ (no_list b ++ no_list c)) ++ faults_nested level
  text_faults level variables (ForText a b c d) =
      (name_faults a ++ ((size_faults variables b ++ size_faults variables c) ++ no_list d))
      ++ (faults_nested level ++ (deep (size_depth b) ++ deep (size_depth c)))
  text_faults level variables Turn = []
  text_faults level variables (TaskText profile a b) =
      (list_faults (clause_faults shape profile variables) a ++ no_list b)
      ++ (faults_nested level ++ faults_mixed (map (clause shape profile variables) (items a)))
  text_faults level variables WaitText = []
  text_faults level variables (WaitForText a) = list_faults (wait_clause_faults shape variables) a
  text_faults level variables (GroupText a b) = (list_faults (section_faults shape variables) a ++ no_list b) ++ faults_nested level
  text_faults level variables (GroupByText op a b) =
      fold_faults op ++ ((list_faults (section_faults shape variables) a ++ no_list b) ++ faults_nested level)
  text_faults level variables (ProgramText a b) = (list_faults (section_faults shape variables) a ++ no_list b) ++ faults_nested level
  text_faults level variables NoForm = Form ∷ []

  abbrev pub own_faults : Placed → List Refusal
  own_faults p = text_faults p.level p.variables p.text

-- counts that are past their limits
abbrev pub past_limits : ℕ → Tally → List Refusal
past_limits tasks n =
    unless (nat_le n.statements max_statements) TooLarge ++ (unless (nat_le n.turns max_turns) TooLarge
    ++ (unless (nat_le n.nodes max_nodes) TooLarge ++ (unless (nat_le n.cells max_cells) TooLarge
    ++ unless (nat_le n.tasks tasks) TooManyTasks)))

-- Why a program is refused: the order in which the faults of one statement are told, and the codes
-- (docs/LANGUAGE.md, "Refusals", the codes).

-- the place in the order in which the faults of one statement are told
abbrev pub rank : Refusal → ℕ
rank Form = 0
rank Size = 1
rank UnknownArray = 2
rank OutOfRange = 3
rank EmptySection = 4
rank TooLarge = 5
rank TooManyTasks = 6
rank MixedReduction = 7

-- the number that a client is told
abbrev pub code_of : Refusal → ℕ
code_of Form = 420
code_of Size = 421
code_of UnknownArray = 412
code_of OutOfRange = 414
code_of EmptySection = 424
code_of TooLarge = 422
code_of TooManyTasks = 423
code_of MixedReduction = 429

-- of two faults, the one that comes first in the order
abbrev pub least : Refusal → Refusal → Refusal
least c d = if nat_lt (rank d) (rank c) then d else c
