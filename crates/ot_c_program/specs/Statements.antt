-- Statements.
use Rattle.std.specs.Prelude.{ℕ, ◌-◌, Bool, true, false, List, [], ◌∷◌, ◌++◌, map, Option, Some, None, Result, Ok, Err, slice_get, codes, if◌then◌else◌}
use Rattle.serde_json.specs.Data.{Data, string}
use Rattle.serde_json.specs.View.{view}
use Rattle.ot_c_words.specs.declared.word.IntegerType.{IntegerType}
use Rattle.ot_c_words.specs.declared.word.IntegerType.TheVariants.{Int, Unsigned, Long, UnsignedLong}
use Rattle.ot_c_words.specs.declared.word.Name.{Name}
use Rattle.ot_program.specs.Meanings.{is_name}
use Rattle.ot_c_expressions.specs.declared.sign.Sign.{Sign}
use Rattle.ot_c_expressions.specs.declared.tree.Operation.{Operation}
use Rattle.ot_c_expressions.specs.Tree.{E, Claim, left_of}
use Rattle.ot_c_statements.specs.Tree.{Aim, Course, Site, S, Block, Assign, If, For, Task, Wait, Group, Yield, Call, Print, Show, Point, Body, End, Next}
use Rattle.ot_c_scope.specs.declared.reason.Reason.TheVariants as why
use Rattle.ot_c_scope.specs.declared.scope.Sense.{Sense}
use Rattle.ot_c_scope.specs.declared.scope.Sense.TheVariants as means
use Rattle.ot_c_scope.specs.declared.scope.Turn.{Turn}
use Rattle.ot_c_scope.specs.Forms.{nat, form, list_form}
use Rattle.ot_c_scope.specs.Kinds.{is_word}
use Rattle.ot_c_scope.specs.Results.{Refusal, ◌>>=◌}
use Rattle.ot_c_scope.specs.Scopes.{Around, text_of, sense, combines, with_turn, within_task}
use Rattle.ot_c_scope.specs.Sizes.{size}
use Rattle.ot_c_meaning.specs.Values.{value}
use Rattle.ot_c_program.specs.declared.statements.Bounds.{Bounds}
use Rattle.ot_c_program.specs.declared.statements.Became.{Became}
use Rattle.ot_c_program.specs.declared.statements.Became.TheVariants as got
use Rattle.ot_c_program.specs.declared.statements.Called.{Called}
use Rattle.ot_c_program.specs.declared.statements.Loops.{Loops}
use Rattle.ot_c_program.specs.declared.statements.Source.{Source}
use Rattle.ot_c_lines.specs.Assignments.{assignment}
use Rattle.ot_c_lines.specs.Extremes.{Extremum, kept_if, extreme_folded}
use Rattle.ot_c_clauses.specs.Clauses.{Head, heading, group_operation}
use Rattle.ot_c_clauses.specs.declared.own.Taking.{Taking}
use Rattle.ot_c_arrays.specs.Each.{each_or_refused}
use Rattle.ot_c_lines.specs.Lines.{L, Lowered, lines_of, none, one_statement, one_with, both_lines}
use Rattle.ot_c_clauses.specs.Operations.{operation_word}

abbrev pub became_of : Became → Lowered
became_of (got.Lines lines) = Ok (lines_of lines)
became_of (got.Outside at reason) = Err (at, reason)

-- what becomes of a function where it is called, in regions and outside of them
pub record Twice : Type 0 where
  pub inside : Lowered
  pub outside : Lowered

abbrev pub called_of : Called → Twice
called_of c = record { inside = became_of c.inside; outside = became_of c.outside }

-- how many words the file has, what functions are, by their numbers, and how loops are written
pub record Origin : Type 0 where
  pub words : ℕ
  pub functions : List Twice
  pub loops : Loops

abbrev pub source_of : Source → Origin
source_of x = record { words = x.words; functions = map called_of x.functions.now; loops = x.loops }

abbrev pub lines_behind : L → Lowered → Lowered
lines_behind lines more = more >>= λ l. both_lines lines l

-- ---- statements without a body

-- a value is read, and nothing else is done
abbrev pub value_read : Around → ℕ → E → Lowered
value_read a at e = value a e >>= λ v. Ok (one_statement at (form (codes "if") (v.text ∷ list_form [] ∷ list_form [] ∷ [])) [])

abbrev pub read_step : Around → ℕ → L → E → Lowered
read_step a at lines e = lines_behind lines (value_read a at e)

-- values that are printed are read, one after another
abbrev pub print : Around → ℕ → List E → Lowered
print a at es = each_or_refused (read_step a at) none es

-- where the name of a directive stands that begins there, with the one word `#pragma omp`
abbrev pub directive_name_at : ℕ → ℕ
directive_name_at left = left - 1

-- tasks, waits and groups stand in a parallel region
abbrev pub within_region : Around → ℕ → Result (Unit {0}) Refusal
within_region a at = if a.inside then Ok tt else Err (at, why.NoRegion)

abbrev pub wait_for_all : ℕ → Lowered
wait_for_all at = Ok (one_statement at (form (codes "wait") []) [])

abbrev pub wait_for : Around → ℕ → List Claim → Lowered
wait_for a at cs = heading (directive_name_at at) a cs >>= λ h. Ok (one_statement at (form (codes "wait") (list_form h.clauses ∷ [])) [])

abbrev pub waits : Around → ℕ → List Claim → Lowered
waits a at [] = wait_for_all at
waits a at (c ∷ cs) = wait_for a at (c ∷ cs)

-- a wait, with clauses or without (OpenMP API 5.2, section 15.5)
abbrev pub wait : Around → ℕ → List Claim → Lowered
wait a at cs = within_region a (directive_name_at at) >>= λ x. waits a at cs

-- cells of an array, to which `show` has a pointer: they are of type `uint64_t`
abbrev pub shown_by : ℕ → Sense → Lowered
shown_by at (means.Cells k (Some n)) = if is_word k then Ok none else Err (at, why.OtherType)
shown_by at (means.Cells k None) = Err (at, why.NoArray)
shown_by at means.Nothing = Err (at, why.Unknown)
shown_by at (means.Constant n k) = Err (at, why.Constant)
shown_by at (means.Turn k) = Err (at, why.LoopVariable)
shown_by at means.Begins = Err (at, why.LoopVariable)
shown_by at (means.Combined o k length) = Err (at, why.Combined)
shown_by at (means.Pointer x p) = Err (at, why.Pointer)
shown_by at (means.Function i) = Err (at, why.Function)

-- cells that are shown outside of regions: all are, whatever is called for
abbrev pub show : Around → ℕ → Site → Lowered
show a at c = if a.inside then Err (at, why.Function) else shown_by c.left (sense a c.array)

-- ---- calls

abbrev pub function_by : ℕ → Sense → Result ℕ Refusal
function_by at (means.Function i) = Ok i
function_by at means.Nothing = Err (at, why.Function)
function_by at (means.Constant n k) = Err (at, why.Function)
function_by at (means.Turn k) = Err (at, why.Function)
function_by at means.Begins = Err (at, why.Function)
function_by at (means.Cells k length) = Err (at, why.Function)
function_by at (means.Combined o k length) = Err (at, why.Function)
function_by at (means.Pointer x p) = Err (at, why.Function)

-- Which function a name is that is called with these values. It touches what names mean where it stands: while a group
-- combines over a name, the name is a task's own copy where it is called, and the array itself in the function.
abbrev pub function_called : Around → ℕ → Name → List E → Result ℕ Refusal
function_called a at f [] = if combines a.opened then Err (at, why.CallInGroup) else function_by at (sense a f)
function_called a at f (e ∷ es) = Err (at, why.Function)

abbrev pub call_lines : Around → ℕ → Option Twice → Lowered
call_lines a at None = Err (at, why.Function)
call_lines a at (Some c) = if a.inside then c.inside else c.outside

-- a call: the statements of the function, in which names mean what they do where it stands
abbrev pub call : List Twice → Around → ℕ → Name → List E → Lowered
call functions a at f es = function_called a at f es >>= λ i. call_lines a at (slice_get functions i)

-- ---- loops

-- an `int` that begins with a number of another type may be another number
abbrev pub may_begin : IntegerType → IntegerType → Bool
may_begin Int Int = true
may_begin Int Unsigned = false
may_begin Int Long = false
may_begin Int UnsignedLong = false
may_begin Unsigned k = true
may_begin Long k = true
may_begin UnsignedLong k = true

abbrev pub end_of_range : Bool → Data → Data
end_of_range through d = if through then form (codes "+") (d ∷ nat 1 ∷ []) else d

-- the name of a loop's variable, its first number, and the end
pub record LoopRange : Type 0 where
  pub name : Data
  pub first : Data
  pub end : Data

abbrev pub bounds_of : Bounds → LoopRange
bounds_of b = record { name = view b.name; first = view b.first; end = view b.end }

abbrev pub loop_turn : Course → Bool → Turn
loop_turn c begun = record { variable = c.variable; kind = c.kind; begun = begun }

abbrev pub range_by : Around → Course → Data × IntegerType → Data → Result LoopRange Refusal
range_by a c first end = if may_begin c.kind first.1 then Ok (record { name = string (text_of a.names c.variable); first = first.0; end = end_of_range c.through end }) else Err (left_of c.start, why.Narrow)

-- both bounds are computed outside of the loop, and don't name its variable
abbrev pub sizes : Around → Around → Course → Result LoopRange Refusal
sizes a inner c = size inner c.start >>= λ f. size inner c.end >>= λ e. range_by a c f e.0

abbrev pub bounds : Around → Course → Result LoopRange Refusal
bounds a c = if is_name (text_of a.names c.variable) then sizes a (with_turn a (loop_turn c false)) c else Err (c.left, why.NoName)

-- ---- statements with bodies

abbrev pub branch : ℕ → Data → L → L → L
branch at test x y = one_with at (form (codes "if") (test ∷ list_form x.texts ∷ list_form y.texts ∷ [])) (x.places ++ y.places) (x.taking ++ y.taking)

abbrev pub loop_lines : ℕ → LoopRange → L → L
loop_lines at r x = one_with at (form (codes "for") (r.name ∷ r.first ∷ r.end ∷ list_form x.texts ∷ [])) x.places x.taking

-- what the clauses of a task say (OpenMP API 5.2, section 12.5)
abbrev pub task_head : Around → ℕ → List Claim → Result Head Refusal
task_head a at cs = within_region a (directive_name_at at) >>= λ u. heading (directive_name_at at) (within_task a) cs

-- a task that takes part in reductions so
abbrev pub task : ℕ → List Data → List Taking → L → L
task at clauses taking x = one_with at (form (codes "task") (list_form clauses ∷ list_form x.texts ∷ [])) x.places (map (λ t. (at, t)) taking ++ x.taking)

-- by which operation a group combines, and what its clauses say (OpenMP API 5.2, section 15.4)
abbrev pub group_head : Around → ℕ → List Claim → Result (Operation × Head) Refusal
group_head a at cs = within_region a (directive_name_at at) >>= λ u. group_operation cs >>= λ op. heading (directive_name_at at) a cs >>= λ h. Ok (op, h)

abbrev pub group : ℕ → Operation → List Data → L → L
group at op sections x = one_with at (form (codes "group") (string (operation_word op) ∷ list_form sections ∷ list_form x.texts ∷ [])) x.places x.taking

abbrev pub assignment_line : Around → ℕ → Aim → Option Sign → E → Lowered
assignment_line a at t sign e = assignment a t sign e >>= λ d. Ok (one_statement at d [])

-- what an `if` keeps in a task's own copy is folded into it
abbrev pub extreme_kept : Around → ℕ → Extremum → Lowered
extreme_kept a at k = extreme_folded a k >>= λ d. Ok (one_statement at d [])

-- an `if`, whose bodies become these unless it keeps something
abbrev pub branch_lines : Around → ℕ → E → Option Extremum → Lowered → Lowered → Lowered
branch_lines a at test (Some k) b c = extreme_kept a at k
branch_lines a at test None b c = value a test >>= λ v. b >>= λ x. c >>= λ y. Ok (branch at v.text x y)

-- ---- statements

unfoldable mutual
  pub lowered_statement : Origin → Around → S → Lowered
  lowered_statement o a (Block left b) = body_from o a none b
  lowered_statement o a (Assign left t sign e) = assignment_line a left t sign e
  lowered_statement o a (If left test b c) = branch_lines a left test (kept_if a test b c) (body_from o a none b) (body_from o a none c)
  lowered_statement o a (For left c b) = bounds a c >>= λ r. body_from o (with_turn a (loop_turn c true)) none b >>= λ x. Ok (loop_lines left r x)
  lowered_statement o a (Task left cs b) = task_head a left cs >>= λ h. body_from o h.around none b >>= λ x. Ok (task left h.clauses h.taking x)
  lowered_statement o a (Wait left cs) = wait a left cs
  lowered_statement o a (Group left cs b) = group_head a left cs >>= λ g. body_from o g.1.around none b >>= λ x. Ok (group left g.0 g.1.clauses x)
  lowered_statement o a (Yield left) = Ok none
  lowered_statement o a (Call left f es) = call o.functions a left f es
  lowered_statement o a (Print left es) = print a left es
  lowered_statement o a (Show left c n) = show a left c
  lowered_statement o a (Point left p c) = Ok none

  -- statements behind others
  pub body_from : Origin → Around → L → Body → Lowered
  body_from o a lines End = Ok lines
  body_from o a lines (Next s rest) = lines_behind lines (lowered_statement o a s) >>= λ l. body_from o a l rest

abbrev pub body : Origin → Around → Body → Lowered
body o a b = body_from o a none b
