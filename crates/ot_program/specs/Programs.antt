-- What a text is as a program over a shape: its expansion, or the fault that is told (docs/LANGUAGE.md, "Refusals",
-- which fault is told).
use Rattle.std.specs.Prelude.{List, [], ◌∷◌, ◌++◌, map, fold, Option, Some, None, Result, Ok, Err}
use Rattle.std.specs.Option.{option_or}
use Rattle.serde_json.specs.Data.{Data, array, no_items, item}
use Rattle.ot_model.specs.Tree.{size, tasks_in, S, body_of}
use Rattle.ot_model.specs.Programs.{Expanded, Arrays}
use Rattle.ot_model.specs.declared.expr.Section.{Section}
use Rattle.ot_program.specs.Copies.{ProgramText, Placed, Copy, Done, at, copies, in_copy, statement_of}
use Rattle.ot_program.specs.Faults.{own_faults, past_limits, least}
use Rattle.ot_program.specs.Limits.{total}
use Rattle.ot_program.specs.Meanings.{items, section, profile_of}
use Rattle.ot_program.specs.declared.fault.Refusal.{Refusal}
use Rattle.ot_program.specs.declared.fault.Refusal.TheVariants.{Form}
use Rattle.ot_program.specs.declared.profile.Profile.{Profile}

-- ---- what is told

-- of some faults the first of the order
abbrev pub foremost : List Refusal → Option Refusal
foremost [] = None
foremost (c ∷ cs) = Some (fold least c cs)

module _ (shape : Arrays) where
  -- the faults of a statement behind others: those of its own parts, and each count that with it is past its limit
  abbrev pub faults_behind : List Placed → Placed → List Refusal
  faults_behind before p = own_faults shape p ++ past_limits shape.tasks (total shape (before ++ p ∷ []))

  -- the first statement with a fault decides, and of its faults the first of the order
  abbrev pub fault_told : List Placed → List Placed → Option Refusal
  fault_told before [] = None
  fault_told before (p ∷ rest) = option_or (foremost (faults_behind before p)) (fault_told (before ++ p ∷ []) rest)

-- ---- programs

-- what is accepted, unless a fault is told
abbrev pub told_or : {A : Type 0} → A → Option Refusal → Result A Refusal
told_or x None = Ok x
told_or x (Some c) = Err c

abbrev pub expansion : List Section → List S → Expanded
expansion shows ss = record { shows = shows; body = body_of ss; statements = size (body_of ss); tasks = tasks_in (body_of ss) }

-- The program with its shows is a statement before all others. Its body is one deeper, as every body is.
abbrev pub program_copy : Profile → Data → Data → Copy
program_copy profile shows body = at 0 [] (ProgramText shows body) (copies profile 1 body []) Done

abbrev pub program_in : Arrays → Option Profile → Data → Data → Result Expanded Refusal
program_in shape None shows body = Err Form
program_in shape (Some profile) shows body =
    told_or (expansion (map (section shape []) (items shows)) (statement_of shape (program_copy profile shows body)))
    (fault_told shape [] (in_copy (program_copy profile shows body)))

-- `["program", [section, ..], body]` and `["program2", [section, ..], body]`
abbrev pub program_of : Arrays → Data → Result Expanded Refusal
program_of shape (array (item t (item a (item b no_items)))) = program_in shape (profile_of t) a b
program_of shape _ = Err Form
