-- A file whole.
use Rattle.std.specs.Prelude.{ℕ, ◌+◌, ◌==◌, nat_lt, Bool, true, false, List, [], ◌∷◌, ◌++◌, length, map, replicate, find, Option, Some, None, Result, Ok, Err, codes, if◌then◌else◌}
use Rattle.std.specs.List.{list_all}
use Rattle.serde_json.specs.Data.{Data, string, Items}
use Rattle.serde_json.specs.View.{view, items_of}
use Rattle.ot_c_expressions.specs.Tree.{E, left_of}
use Rattle.ot_c_statements.specs.Tree.{S, Yield, Print, Show, Point, Body}
use Rattle.ot_c_files.specs.Program.{Entry, Constant, Global as Global', Function, Act, Local, Region, Does, Whole}
use Rattle.ot_c_scope.specs.declared.reason.Reason.TheVariants as why
use Rattle.ot_c_scope.specs.declared.scope.Meaning.{Meaning}
use Rattle.ot_c_scope.specs.declared.scope.Meaning.TheVariants as m
use Rattle.ot_c_scope.specs.Constants.{Typed, constant}
use Rattle.ot_c_scope.specs.Forms.{nat, form, list_form}
use Rattle.ot_c_scope.specs.Results.{Refusal, ◌>>=◌}
use Rattle.ot_c_words.specs.declared.word.Name.{Name}
use Rattle.ot_c_arrays.specs.Places.{byte_of}
use Rattle.ot_c_arrays.specs.Pointers.{pointers_from}
use Rattle.ot_c_program.specs.declared.lowered.Before.{Before}
use Rattle.ot_c_program.specs.declared.lowered.Lowered.{Lowered}
use Rattle.ot_c_program.specs.declared.lowered.Progress.{Progress}
use Rattle.ot_c_program.specs.declared.lowered.Reductions.{Reductions}
use Rattle.ot_c_program.specs.declared.lowered.Reductions.TheVariants as r
use Rattle.ot_c_clauses.specs.declared.own.Taking.{Taking}
use Rattle.ot_c_clauses.specs.declared.own.Taking.TheVariants.{ByName, ByPointer}
use Rattle.ot_c_arrays.specs.Arrays.{D, declared_view, Arr, c_array, with_meaning, name_number, outside, declare_all}
use Rattle.ot_c_arrays.specs.Each.{each_or_refused}
use Rattle.ot_c_lines.specs.Lines.{L, Took, lines_of, none, both_lines}
use Rattle.ot_c_program.specs.declared.statements.Loops.{Loops}
use Rattle.ot_c_program.specs.declared.statements.Loops.TheVariants.{AsTheyStand, ByTurns}
use Rattle.ot_c_program.specs.Statements.{Twice, called_of, Origin}
use Rattle.ot_c_program.specs.Turns.{statement_lines, written_body}
use Rattle.ot_c_program.specs.Regions.{SourceNames, region_ended, region}

-- ---- what stands before `main`

abbrev pub define_by : ℕ → ℕ → D → ℕ → Option Typed → Result D Refusal
define_by at value d x None = Err (value, why.NoConstant)
define_by at value d x (Some v) = with_meaning at d x (m.Constant v.0 v.1)

-- `#define`: a name that stands there, and stands for a number
abbrev pub define : SourceNames → ℕ → D → ℕ → E → Result D Refusal
define names at d x e = define_by at (left_of e) d x (constant (outside names d.meanings false) e)

-- what stands before `main`, so far: what it declares, what functions are, how many statements they have together, and how loops
-- are written
pub record B : Type 0 where
  pub declared : D
  pub functions : List Twice
  pub count : ℕ
  pub loops : Loops

abbrev pub before_of : Before → B
before_of b = record { declared = declared_view b.declared; functions = map called_of b.functions.items; count = b.count; loops = b.loops }

-- what becomes of a function's body where it is called, in regions or outside of them
abbrev pub function_body : SourceNames → ℕ → B → Bool → Body → Result L Refusal
function_body names words b inside stmts = written_body (record { words = words; functions = b.functions; loops = b.loops }) (outside names b.declared.meanings inside) stmts

abbrev pub lines_length : Result L Refusal → ℕ
lines_length (Ok l) = length l.places
lines_length (Err e) = 0

abbrev pub statement_count : ℕ → ℕ → Twice → Result ℕ Refusal
statement_count at n c = if nat_lt 20000 (n + (lines_length c.inside + lines_length c.outside)) then Err (at, why.TooMany) else Ok (n + (lines_length c.inside + lines_length c.outside))

abbrev pub with_function : ℕ → B → ℕ → Twice → Result B Refusal
with_function at b x c =
    statement_count at b.count c >>= λ n.
    with_meaning at b.declared x (m.Function (length b.functions)) >>= λ d.
    Ok (record b { declared = d; functions = b.functions ++ c ∷ []; count = n })

abbrev pub both_bodies : SourceNames → ℕ → B → Body → Twice
both_bodies names words b stmts = record { inside = function_body names words b true stmts; outside = function_body names words b false stmts }

-- `void f(void)`, which calls none but those before it
abbrev pub function : SourceNames → ℕ → ℕ → B → Name → Body → Result B Refusal
function names words at b f stmts =
    name_number at f >>= λ i.
    pointers_from names b.declared stmts >>= λ d.
    with_function at (record b { declared = d }) i (both_bodies names words (record b { declared = d }) stmts)

abbrev pub top_step : SourceNames → ℕ → B → Entry → Result B Refusal
top_step names words b (Constant left x e) = define names left b.declared x e >>= λ d. Ok (record b { declared = d })
top_step names words b (Global' given) = declare_all names b.declared given >>= λ d. Ok (record b { declared = d })
top_step names words b (Function left f stmts) = function names words left b f stmts

abbrev pub nothing : Loops → SourceNames → B
nothing loops names = record { declared = record { meanings = replicate (length names) m.Nothing; arrays = [] }; functions = []; count = 0; loops = loops }

abbrev pub tops : Loops → SourceNames → ℕ → List Entry → Result B Refusal
tops loops names words ts = each_or_refused (top_step names words) (nothing loops names) ts

-- ---- what `main` does

-- a statement outside of regions
abbrev pub outside_regions : SourceNames → Origin → List Meaning → S → Result L Refusal
outside_regions names o meanings s = statement_lines o (outside names meanings false) s

-- what a file declared and does so far
pub record P : Type 0 where
  pub declared : D
  pub lines : L

abbrev pub progress_of : Progress → P
progress_of p = record { declared = declared_view p.declared; lines = lines_of p.lines }

abbrev pub put_lines : D → L → L → Result P Refusal
put_lines d lines more = both_lines lines more >>= λ l. Ok (record { declared = d; lines = l })

-- Whether nothing of the program stands for a statement: it shows cells or prints words, and no more.
unfoldable pub is_silent : S → Bool
is_silent (Print left es) = length es == 0
is_silent (Yield left) = true
is_silent (Show left c n) = true
is_silent (Point left p c) = true
is_silent _ = false

abbrev pub adds_nothing : Act → Bool
adds_nothing (Local given) = true
adds_nothing (Region left cs b) = false
adds_nothing (Does s) = is_silent s

-- whether nothing of the program stands for what `main` does so
abbrev pub add_nothing : List Act → Bool
add_nothing acts = list_all adds_nothing acts

-- what `main` does next, with what stands behind it
abbrev pub main_act : SourceNames → Origin → P → Act → List Act → Result P Refusal
main_act names o p (Local given) behind = declare_all names p.declared given >>= λ d. Ok (record p { declared = d })
main_act names o p (Region left cs b) behind =
    pointers_from names p.declared b >>= λ d.
    region names o d.meanings left cs b >>= λ l.
    put_lines d p.lines (region_ended left (add_nothing behind) b l)
main_act names o p (Does s) behind = outside_regions names o p.declared.meanings s >>= λ l. put_lines p.declared p.lines l

unfoldable pub main_from : SourceNames → Origin → P → List Act → Result P Refusal
main_from names o p [] = Ok p
main_from names o p (a ∷ acts) = main_act names o p a acts >>= λ q. main_from names o q acts

abbrev pub main_body : SourceNames → Origin → D → List Act → Result P Refusal
main_body names o d acts = main_from names o (record { declared = d; lines = none }) acts

-- ---- the whole

-- `[name, 0, length]`
abbrev pub array_shown : Arr → Data
array_shown a = list_form (string a.name ∷ nat 0 ∷ nat (length a.cells) ∷ [])

abbrev pub shows : List Arr → Result Items Refusal
shows arrays = Ok (items_of (map array_shown arrays))

-- a program, its arrays, where its statements stand in the file, and how its tasks take part in reductions
pub record Program : Type 0 where
  pub arrays : List Arr
  pub program : Data
  pub places : List ℕ
  pub reductions : Reductions

abbrev pub lowered_of : Lowered → Program
lowered_of l = record { arrays = map c_array l.arrays.items; program = view l.program; places = l.places.items; reductions = l.reductions }

abbrev pub differs : Taking → Taking → Bool
differs ByName ByName = false
differs ByName ByPointer = true
differs ByPointer ByName = true
differs ByPointer ByPointer = false

abbrev pub all_by : Taking → Reductions
all_by ByName = r.ByNames
all_by ByPointer = r.ByPointers

abbrev pub unless_other : List ℕ → Taking → Option Took → Reductions
unless_other starts way None = all_by way
unless_other starts way (Some other) = r.Mixed (byte_of starts other.0)

-- how tasks take part in reductions: all as the first one does, or by names where none does; or where the first one begins that
-- takes part otherwise
abbrev pub reductions_of : List ℕ → List Took → Reductions
reductions_of starts [] = r.ByNames
reductions_of starts (t ∷ ts) = unless_other starts t.1 (find (λ other. differs t.1 other.1) ts)

-- `["program2", shows, body]`, which shows all arrays, of a file whose words begin at these bytes
abbrev pub whole_program : List ℕ → P → Program
whole_program starts p = record { arrays = p.declared.arrays; program = form (codes "program2") (list_form (map array_shown p.declared.arrays) ∷ list_form p.lines.texts ∷ []); places = map (byte_of starts) p.lines.places; reductions = reductions_of starts p.lines.taking }

-- the program of a file whose loops are written so
abbrev pub lowered_with : Loops → SourceNames → List ℕ → Whole → Result Program Refusal
lowered_with loops names starts file =
    tops loops names (length starts) file.tops >>= λ b.
    main_body names (record { words = length starts; functions = b.functions; loops = loops }) b.declared file.main >>= λ p.
    Ok (whole_program starts p)

-- the program of a file
abbrev pub file_lowered : SourceNames → List ℕ → Whole → Result Program Refusal
file_lowered names starts file = lowered_with AsTheyStand names starts file

-- the same, with its loops written out turn by turn where an `if` stands in them
abbrev pub lowered_by_turns : SourceNames → List ℕ → Whole → Result Program Refusal
lowered_by_turns names starts file = lowered_with ByTurns names starts file
