-- A file whole, from left to right.
use Rattle.std.specs.Prelude.{ℕ, Bool, true, false, ◌&&◌, List, [], ◌∷◌, ◌++◌, length, Option, Some, None, Result, Ok, Err, if◌then◌else◌}
use Rattle.ot_c_words.specs.Reading.{◌>>=◌, steps, behind_mark, name_at}
use Rattle.ot_c_words.specs.declared.known.Known.TheVariants as k
use Rattle.ot_c_words.specs.declared.mark.Mark.TheVariants as m
use Rattle.ot_c_words.specs.declared.word.Name.{Name}
use Rattle.ot_c_words.specs.declared.word.Name.TheVariants as n
use Rattle.ot_c_words.specs.declared.word.Word.{Word}
use Rattle.ot_c_words.specs.declared.word.Word.TheVariants as w
use Rattle.ot_c_expressions.specs.Tree.{E, Literal, Variable}
use Rattle.ot_c_statements.specs.declared.fault.Fault.{Fault}
use Rattle.ot_c_statements.specs.declared.fault.Fault.TheVariants.{NoMark, NoName, NoConstant, NoRegion, More, TooLong}
use Rattle.ot_c_statements.specs.Tree.{body_of}
use Rattle.ot_c_files.specs.Program.{Entry, Constant, Global, Function as FunctionAt, Whole}
use Rattle.ot_c_statements.specs.Reading.{Behind, end_at, value}
use Rattle.ot_c_statements.specs.Statements.{statement_at, stmts_at}
use Rattle.ot_c_files.specs.Declarations.{static_end, declaration_at}
use Rattle.ot_c_files.specs.declared.known.Function.{Function}
use Rattle.ot_c_files.specs.Known.{known_begin, known_end}
use Rattle.ot_c_files.specs.Main.{has_region, main_at}

abbrev pub OneTop : Type 0
OneTop = Result (Entry × List Word) Fault

-- ---- constants

-- behind `#define` and a name: what stands for one value wherever the name stands
unfoldable pub constant_value : List Word → Result (E × List Word) Fault
constant_value (w.Number n t ∷ w.End ∷ ws) = Ok (Literal (length (w.Number n t ∷ w.End ∷ ws)) n t, ws)
constant_value (w.Name n ∷ w.End ∷ ws) = Ok (Variable (length (w.Name n ∷ w.End ∷ ws)) n, ws)
constant_value (w.Mark m.Open ∷ ws) = value ws >>= λ x. behind_mark NoMark m.Close x.1 >>= λ a. end_at a >>= λ rest. Ok (x.0, rest)
constant_value ws = Err (NoConstant (length ws))

-- behind `#define`: a name that means nothing by itself
unfoldable pub constant_name : List Word → Result (ℕ × List Word) Fault
constant_name (w.Name (n.Other i) ∷ ws) = Ok (i, ws)
constant_name ws = Err (NoConstant (length ws))

-- behind `#define`
unfoldable pub constant_at : List Word → OneTop
constant_at ws = constant_name ws >>= λ name. constant_value name.1 >>= λ x. Ok (Constant (length ws) name.0 x.0, x.1)

-- ---- functions and declarations

unfoldable pub is_void : Name → Bool
is_void (n.Known k.Void) = true
is_void _ = false

-- behind `void`
unfoldable pub void_end : List Word → Option (List Word)
void_end (w.Name n ∷ ws) = if is_void n then Some ws else None
void_end _ = None

abbrev pub void_behind : List Word → Option (List Word) → Option (List Word)
void_behind ws (Some rest) = void_end rest
void_behind ws None = void_end ws

-- behind `void` or `static void`
unfoldable pub function_end : List Word → Option (List Word)
function_end ws = void_behind ws (static_end ws)

abbrev pub close_behind : List Word → Option (List Word) → Behind
close_behind ws (Some rest) = behind_mark NoMark m.Close rest
close_behind ws None = behind_mark NoMark m.Close ws

-- `(void)` or `()`
unfoldable pub parameters_at : List Word → Behind
parameters_at ws = behind_mark NoMark m.Open ws >>= λ rest. close_behind rest (void_end rest)

-- behind `void`
unfoldable pub function_at : List Word → OneTop
function_at ws = do
  name ← name_at NoName ws
  a ← parameters_at name.1
  b ← behind_mark NoMark m.OpenBlock a
  body ← stmts_at (statement_at 48) b
  Ok (FunctionAt (length ws) name.0 (body_of body.0), body.1)

abbrev pub function_or_global : List Word → Option (List Word) → OneTop
function_or_global ws (Some rest) = function_at rest
function_or_global ws None = declaration_at ws >>= λ x. Ok (Global x.0, x.1)

unfoldable pub global_at : List Word → OneTop
global_at ws = function_or_global ws (function_end ws)

-- ---- what stands before `main`

unfoldable pub top_at : List Word → OneTop
top_at (w.Define ∷ ws) = constant_at ws
top_at ws = global_at ws

unfoldable pub is_int : Name → Bool
is_int (n.Known k.Int) = true
is_int _ = false

unfoldable pub is_main : Name → Bool
is_main (n.Known k.Main) = true
is_main _ = false

-- behind `int main`
unfoldable pub main_begin : List Word → Option (List Word)
main_begin (w.Name a ∷ w.Name b ∷ ws) = if is_int a && is_main b then Some ws else None
main_begin _ = None

-- behind `#include`
unfoldable pub include_end : List Word → Option (List Word)
include_end (w.Include ∷ w.End ∷ ws) = Some ws
include_end _ = None

abbrev pub known_or_top : List Entry → List Word → Option (Function × List Word) → Result (List Entry × Bool × List Word) Fault
known_or_top front ws (Some x) = known_end x.0 x.1 >>= λ rest. Ok (front, true, rest)
known_or_top front ws None = top_at ws >>= λ x. Ok (front ++ x.0 ∷ [], true, x.1)

abbrev pub include_or_top : List Entry → List Word → Option (List Word) → Result (List Entry × Bool × List Word) Fault
include_or_top front ws (Some rest) = Ok (front, true, rest)
include_or_top front ws None = known_or_top front ws (known_begin ws)

-- what stands next, behind others; `#include` and functions that are known say nothing
unfoldable pub next_top : List Entry → List Word → Result (List Entry × Bool × List Word) Fault
next_top front ws = include_or_top front ws (include_end ws)

abbrev pub main_or_top : List Entry → List Word → Option (List Word) → Result (List Entry × Bool × List Word) Fault
main_or_top front ws (Some rest) = Ok (front, false, rest)
main_or_top front ws None = next_top front ws

unfoldable pub tops_step : List Entry → List Word → Result (List Entry × Bool × List Word) Fault
tops_step front ws = main_or_top front ws (main_begin ws)

-- what stands before `main`, up to its brackets
abbrev pub tops_at : List Word → Result (List Entry × List Word) Fault
tops_at ws = steps TooLong tops_step (length ws) [] ws

-- ---- the whole

-- nothing, and no more
unfoldable pub none_left : List Word → Behind
none_left [] = Ok []
none_left (w ∷ ws) = Err (More (length (w ∷ ws)))

-- the file that words say: what stands before `main`, and `main`, in which there is a parallel region
unfoldable pub file_at : List Word → Result Whole Fault
file_at ws = do
  tops ← tops_at ws
  a ← parameters_at tops.1
  b ← behind_mark NoMark m.OpenBlock a
  main ← main_at b
  rest ← none_left main.1
  if has_region main.0 then Ok (record { tops = tops.0; main = main.0 }) else Err (NoRegion (length rest))
