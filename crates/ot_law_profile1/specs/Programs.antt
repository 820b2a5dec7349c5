-- Faults, counts, and what a text is as a program: the definition as it was before the second profile.
use Rattle.std.specs.Prelude.{ℕ, not, List, [], ◌∷◌, ◌++◌, map, is_some, Option, None, Result, Err, if◌then◌else◌, codes}
use Rattle.std.specs.List.{list_any}
use Rattle.std.specs.Option.{option_or}
use Rattle.serde_json.specs.Data.{Data, array, no_items, item}
use Rattle.ot_model.specs.Programs.{Arrays}
use Rattle.ot_model.specs.declared.expr.Section.{Section}
use Rattle.ot_law_profile1.specs.Tree.{S1, body_of1, size1, tasks_in1, Expanded1}
use Rattle.ot_program.specs.Faults.{unless, no_list, list_faults, deep, name_faults, size_faults, cell_faults, section_faults, expression_faults, faults_nested, past_limits}
use Rattle.ot_program.specs.Limits.{size_depth, cells_in, Tally, tally, plus, with_value}
use Rattle.ot_program.specs.Meanings.{items, Bindings, section, value, is_word}
use Rattle.ot_program.specs.Programs.{foremost, told_or}
use Rattle.ot_program.specs.declared.fault.Refusal.{Refusal}
use Rattle.ot_program.specs.declared.fault.Refusal.TheVariants.{Form, MixedReduction}
use Rattle.ot_law_profile1.specs.Copies.{Text1, SetText1, AddText1, IfText1, ForText1, Turn1, TaskText1, WaitText1, GroupText1, ProgramText1, NoForm1, Placed1, Copy1, Done1, at1, copies1, in_copy1, statement_of1, mode_of1, Clause1, clause1, named_cells1, is_mixed1}

-- ---- faults

module _ (shape : Arrays) (variables : Bindings) where
  abbrev pub clause_faults1 : Data → List Refusal
  clause_faults1 (array (item t (item a no_items))) = unless (is_some (mode_of1 t)) Form ++ section_faults shape variables a
  clause_faults1 _ = Form ∷ []

abbrev pub mixed1 : List Clause1 → List Refusal
mixed1 clauses = unless (not (list_any (is_mixed1 clauses) (named_cells1 clauses))) MixedReduction

module _ (shape : Arrays) where
  abbrev pub text_faults1 : ℕ → Bindings → Text1 → List Refusal
  text_faults1 level variables (SetText1 a b) = cell_faults shape variables a ++ expression_faults shape variables b
  text_faults1 level variables (AddText1 a b) = cell_faults shape variables a ++ expression_faults shape variables b
  text_faults1 level variables (IfText1 a b c) = (expression_faults shape variables a ++ (no_list b ++ no_list c)) ++ faults_nested level
  text_faults1 level variables (ForText1 a b c d) =
      (name_faults a ++ ((size_faults variables b ++ size_faults variables c) ++ no_list d))
      ++ (faults_nested level ++ (deep (size_depth b) ++ deep (size_depth c)))
  text_faults1 level variables Turn1 = []
  text_faults1 level variables (TaskText1 a b) =
      (list_faults (clause_faults1 shape variables) a ++ no_list b)
      ++ (faults_nested level ++ mixed1 (map (clause1 shape variables) (items a)))
  text_faults1 level variables WaitText1 = []
  text_faults1 level variables (GroupText1 a b) = (list_faults (section_faults shape variables) a ++ no_list b) ++ faults_nested level
  text_faults1 level variables (ProgramText1 a b) = (list_faults (section_faults shape variables) a ++ no_list b) ++ faults_nested level
  text_faults1 level variables NoForm1 = Form ∷ []

  abbrev pub own_faults1 : Placed1 → List Refusal
  own_faults1 p = text_faults1 p.level p.variables p.text

-- ---- counts

module _ (shape : Arrays) where
  -- what a statement counts by itself, without those in its bodies
  abbrev pub own_tally1 : Bindings → Text1 → Tally
  own_tally1 variables (SetText1 a b) = with_value (value shape variables b)
  own_tally1 variables (AddText1 a b) = with_value (value shape variables b)
  own_tally1 variables (IfText1 a b c) = with_value (value shape variables a)
  own_tally1 variables (ForText1 a b c d) = tally 0 0 0 0 0
  own_tally1 variables Turn1 = tally 0 0 1 0 0
  own_tally1 variables (TaskText1 a b) = tally 1 1 0 0 (cells_in (map (λ c. c.section) (map (clause1 shape variables) (items a))))
  own_tally1 variables WaitText1 = tally 1 0 0 0 0
  own_tally1 variables (GroupText1 a b) = tally 1 0 0 0 (cells_in (map (section shape variables) (items a)))
  own_tally1 variables (ProgramText1 a b) = tally 0 0 0 0 (cells_in (map (section shape variables) (items a)))
  own_tally1 variables NoForm1 = tally 0 0 0 0 0

  abbrev pub total1 : List Placed1 → Tally
  total1 [] = tally 0 0 0 0 0
  total1 (p ∷ ps) = plus (own_tally1 p.variables p.text) (total1 ps)

-- ---- what is told

module _ (shape : Arrays) where
  -- the faults of a statement behind others: those of its own parts, and each count that with it is past its limit
  abbrev pub faults_behind1 : List Placed1 → Placed1 → List Refusal
  faults_behind1 before p = own_faults1 shape p ++ past_limits shape.tasks (total1 shape (before ++ p ∷ []))

  -- the first statement with a fault decides, and of its faults the first of the order
  abbrev pub told1 : List Placed1 → List Placed1 → Option Refusal
  told1 before [] = None
  told1 before (p ∷ rest) = option_or (foremost (faults_behind1 before p)) (told1 (before ++ p ∷ []) rest)

-- ---- programs

abbrev pub expansion1 : List Section → List S1 → Expanded1
expansion1 shows ss = record { shows = shows; body = body_of1 ss; statements = size1 (body_of1 ss); tasks = tasks_in1 (body_of1 ss) }

-- The program with its shows is a statement before all others. Its body is one deeper, as every body is.
abbrev pub program_copy1 : Data → Data → Copy1
program_copy1 shows body = at1 0 [] (ProgramText1 shows body) (copies1 1 body []) Done1

-- `["program", [section, ..], body]`
abbrev pub program_of1 : Arrays → Data → Result Expanded1 Refusal
program_of1 shape (array (item t (item a (item b no_items)))) =
    if is_word t (codes "program")
    then told_or (expansion1 (map (section shape []) (items a)) (statement_of1 shape (program_copy1 a b))) (told1 shape [] (in_copy1 (program_copy1 a b)))
    else Err Form
program_of1 shape _ = Err Form
