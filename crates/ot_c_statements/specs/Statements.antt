-- Statements, from left to right.
use Rattle.std.specs.Prelude.{ℕ, zero, suc, ◌+◌, ◌-◌, Bool, true, false, List, [], ◌∷◌, ◌++◌, length, Option, Some, None, Result, Ok, Err, if◌then◌else◌}
use Rattle.ot_c_words.specs.Reading.{◌>>=◌, steps, behind_mark}
use Rattle.ot_c_words.specs.declared.known.Known.TheVariants as k
use Rattle.ot_c_words.specs.declared.mark.Mark.TheVariants as m
use Rattle.ot_c_words.specs.declared.word.Name.{Name}
use Rattle.ot_c_words.specs.declared.word.Name.TheVariants as n
use Rattle.ot_c_words.specs.declared.word.Word.{Word}
use Rattle.ot_c_words.specs.declared.word.Word.TheVariants as w
use Rattle.ot_c_statements.specs.declared.fault.Fault.{Fault}
use Rattle.ot_c_statements.specs.declared.fault.Fault.TheVariants.{NoMark, NoStatement, NoDirective, TooDeep, TooLong, Declared}
use Rattle.ot_c_statements.specs.declared.directive.Directive.{Directive}
use Rattle.ot_c_statements.specs.declared.directive.Directive.TheVariants as d
use Rattle.ot_c_statements.specs.declared.statement.Opening.{Opening}
use Rattle.ot_c_statements.specs.declared.statement.Opening.TheVariants as o
use Rattle.ot_c_statements.specs.Tree.{S, Block, If, For, Task, Wait, Group, Yield, Body, End, body_of}
use Rattle.ot_c_statements.specs.Reading.{end_at, value}
use Rattle.ot_c_statements.specs.Loops.{course_at}
use Rattle.ot_c_statements.specs.Directives.{directive_of, own_clauses}
use Rattle.ot_c_statements.specs.Simple.{One, named_at, print_at, show_at, local_at}

abbrev pub Many : Type 0
Many = Result (List S × List Word) Fault

abbrev pub Bodied : Type 0
Bodied = Result (Body × List Word) Fault

-- what begins with a name
unfoldable pub opening_of : Name → Opening
opening_of (n.Known k.If) = o.If
opening_of (n.Known k.For) = o.For
opening_of (n.Known k.Printf) = o.Print
opening_of (n.Known k.Show) = o.Show
opening_of (n.Known k.Int) = o.Declares
opening_of (n.Known k.Unsigned) = o.Declares
opening_of (n.Known k.Long) = o.Declares
opening_of (n.Known k.Word64) = o.Points
opening_of (n.Known k.Size) = o.Points
opening_of (n.Known k.Static) = o.Nothing
opening_of (n.Known k.Const) = o.Nothing
opening_of (n.Known k.Void) = o.Nothing
opening_of (n.Known k.Else) = o.Nothing
opening_of (n.Known k.Return) = o.Nothing
opening_of _ = o.Names

unfoldable pub is_else : Name → Bool
is_else (n.Known k.Else) = true
is_else _ = false

-- behind `else`
unfoldable pub else_end : List Word → Option (List Word)
else_end (w.Name n ∷ ws) = if is_else n then Some ws else None
else_end _ = None

-- behind the end of a block
unfoldable pub block_end : List Word → Option (List Word)
block_end (w.Mark m.CloseBlock ∷ ws) = Some ws
block_end _ = None

unfoldable pub is_alone : Name → Bool
is_alone (n.Known k.Taskwait) = true
is_alone (n.Known k.Taskyield) = true
is_alone _ = false

-- whether a directive without a statement of its own is at the front: it is no body (OpenMP API 5.2, section 3.1)
unfoldable pub stands_alone : List Word → Bool
stands_alone (w.Pragma ∷ w.Name n ∷ ws) = is_alone n
stands_alone _ = false

-- what follows is said of a reader of the statements that nest in this one
module _ (one : List Word → One) where
  -- ---- blocks

  -- a statement behind others, or the end of their block
  abbrev pub stmt_or_end : List S → List Word → Option (List Word) → Result (List S × Bool × List Word) Fault
  stmt_or_end front ws (Some rest) = Ok (front, false, rest)
  stmt_or_end front ws None = one ws >>= λ x. Ok (front ++ x.0 ∷ [], true, x.1)

  unfoldable pub stmts_step : List S → List Word → Result (List S × Bool × List Word) Fault
  stmts_step front ws = stmt_or_end front ws (block_end ws)

  -- the statements of a block up to its end
  abbrev pub stmts_at : List Word → Many
  stmts_at ws = steps TooLong stmts_step (length ws) [] ws

  -- the statements of a block, or the one statement
  unfoldable pub body_at : List Word → Bodied
  body_at (w.Mark m.OpenBlock ∷ ws) = stmts_at ws >>= λ x. Ok (body_of x.0, x.1)
  body_at ws = if stands_alone ws then Err (NoDirective (length ws - 1)) else one ws >>= λ x. Ok (body_of (x.0 ∷ []), x.1)

  -- ---- branches and loops

  abbrev pub else_body : List Word → Option (List Word) → Bodied
  else_body ws (Some rest) = body_at rest
  else_body ws None = Ok (End, ws)

  -- what `else` says, or nothing
  unfoldable pub otherwise_at : List Word → Bodied
  otherwise_at ws = else_body ws (else_end ws)

  -- behind `if`
  unfoldable pub branch_at : ℕ → List Word → One
  branch_at left ws = do
    a ← behind_mark NoMark m.Open ws
    test ← value a
    b ← behind_mark NoMark m.Close test.1
    one ← body_at b
    two ← otherwise_at one.1
    Ok (If left test.0 one.0 two.0, two.1)

  -- behind `for`
  unfoldable pub loop_at : ℕ → List Word → One
  loop_at left ws = course_at ws >>= λ x. body_at x.1 >>= λ body. Ok (For left x.0 body.0, body.1)

  -- ---- directives

  -- behind `#pragma omp task`
  unfoldable pub task_at : ℕ → List Word → One
  task_at left ws = own_clauses d.Task ws >>= λ x. body_at x.1 >>= λ body. Ok (Task left x.0 body.0, body.1)

  -- behind `#pragma omp taskgroup`
  unfoldable pub group_at : ℕ → List Word → One
  group_at left ws = own_clauses d.Group ws >>= λ x. body_at x.1 >>= λ body. Ok (Group left x.0 body.0, body.1)

-- behind `#pragma omp taskwait`
unfoldable pub wait_at : ℕ → List Word → One
wait_at left ws = own_clauses d.Wait ws >>= λ x. Ok (Wait left x.0, x.1)

-- behind `#pragma omp taskyield`
unfoldable pub yield_at : ℕ → List Word → One
yield_at left ws = end_at ws >>= λ rest. Ok (Yield left, rest)

module _ (one : List Word → One) where
  abbrev pub directive_by : ℕ → Directive → List Word → One
  directive_by left d.Task ws = task_at one left ws
  directive_by left d.Wait ws = wait_at left ws
  directive_by left d.Group ws = group_at one left ws
  directive_by left d.Yield ws = yield_at left ws
  directive_by left d.Parallel ws = Err (NoDirective (length ws + 1))

  abbrev pub as_directive : ℕ → List Word → List Word → Option Directive → One
  as_directive left ws rest (Some d) = directive_by left d rest
  as_directive left ws rest None = Err (NoDirective (length ws))

  -- behind `#pragma omp`
  unfoldable pub directive_at : ℕ → List Word → One
  directive_at left (w.Name n ∷ ws) = as_directive left (w.Name n ∷ ws) ws (directive_of n)
  directive_at left ws = Err (NoDirective (length ws))

  -- ---- by the first word

  abbrev pub opened_by : ℕ → Name → Opening → List Word → One
  opened_by left n o.If ws = branch_at one left ws
  opened_by left n o.For ws = loop_at one left ws
  opened_by left n o.Print ws = print_at left ws
  opened_by left n o.Show ws = show_at left ws
  opened_by left n o.Points ws = local_at left ws
  opened_by left n o.Declares ws = Err (Declared left)
  opened_by left n o.Nothing ws = Err (NoStatement left)
  opened_by left n o.Names ws = named_at left n ws

  unfoldable pub form_at : ℕ → List Word → One
  form_at left (w.Name n ∷ ws) = opened_by left n (opening_of n) ws
  form_at left (w.Pragma ∷ ws) = directive_at left ws
  form_at left (w.Mark m.OpenBlock ∷ ws) = stmts_at one ws >>= λ x. Ok (Block left (body_of x.0), x.1)
  form_at left ws = Err (NoStatement left)

-- a statement in which others nest so deep
unfoldable pub statement_at : ℕ → List Word → One
statement_at zero ws = Err (TooDeep (length ws))
statement_at (suc depth) ws = form_at (statement_at depth) (length ws) ws
