-- Declarations of arrays and variables, from left to right.
use Rattle.std.specs.Prelude.{Bool, true, false, ◌||◌, is_some, List, [], ◌∷◌, ◌++◌, length, Option, Some, None, Result, Ok, if◌then◌else◌}
use Rattle.ot_c_words.specs.Reading.{◌>>=◌, steps, behind_mark, name_at}
use Rattle.ot_c_words.specs.declared.known.Known.TheVariants as k
use Rattle.ot_c_words.specs.declared.mark.Mark.TheVariants as m
use Rattle.ot_c_words.specs.declared.word.Name.{Name}
use Rattle.ot_c_words.specs.declared.word.Name.TheVariants as n
use Rattle.ot_c_words.specs.declared.word.Word.{Word}
use Rattle.ot_c_words.specs.declared.word.Word.TheVariants as w
use Rattle.ot_c_statements.specs.declared.fault.Fault.{Fault}
use Rattle.ot_c_statements.specs.declared.fault.Fault.TheVariants.{NoMark, NoName, TooLong}
use Rattle.ot_c_files.specs.Program.{Start, Unset, One, Many, Cells, Declared}
use Rattle.ot_c_statements.specs.Reading.{another, index_at, value, values}
use Rattle.ot_c_statements.specs.Loops.{type_word, type_at}

unfoldable pub is_static : Name → Bool
is_static (n.Known k.Static) = true
is_static _ = false

-- behind `static`
unfoldable pub static_end : List Word → Option (List Word)
static_end (w.Name n ∷ ws) = if is_static n then Some ws else None
static_end _ = None

-- whether it stands here, and what is behind it
abbrev pub storage : List Word → Option (List Word) → Bool × List Word
storage ws (Some rest) = (true, rest)
storage ws None = (false, ws)

-- whether a declaration begins with this word
unfoldable pub begins : Name → Bool
begins n = is_static n || is_some (type_word n)

-- whether a declaration begins here
unfoldable pub declares : List Word → Bool
declares (w.Name n ∷ ws) = begins n
declares _ = false

-- behind `=`: a value, or some in braces
unfoldable pub initial_value : List Word → Result (Start × List Word) Fault
initial_value (w.Mark m.OpenBlock ∷ ws) = values ws >>= λ x. behind_mark NoMark m.CloseBlock x.1 >>= λ rest. Ok (Many x.0, rest)
initial_value ws = value ws >>= λ x. Ok (One x.0, x.1)

-- `= 1`, `= {1, 2}` or nothing
unfoldable pub initial_at : List Word → Result (Start × List Word) Fault
initial_at (w.Mark m.Assign ∷ ws) = initial_value ws
initial_at ws = Ok (Unset, ws)

unfoldable pub variable_at : List Word → Result (Cells × List Word) Fault
variable_at ws = do
  name ← name_at NoName ws
  size ← index_at name.1
  initial ← initial_at size.1
  Ok (record { left = length ws; name = name.0; length = size.0; initial = initial.0 }, initial.1)

-- a variable behind others, and whether another follows
unfoldable pub variables_step : List Cells → List Word → Result (List Cells × Bool × List Word) Fault
variables_step front ws = variable_at ws >>= λ x. Ok (front ++ x.0 ∷ [], (another x.1).0, (another x.1).1)

abbrev pub variables_at : List Word → Result (List Cells × List Word) Fault
variables_at ws = steps TooLong variables_step (length ws) [] ws

-- `static uint64_t a[3] = {1, 2}, b;`
unfoldable pub declaration_at : List Word → Result (Declared × List Word) Fault
declaration_at ws = do
  kind ← type_at (storage ws (static_end ws)).1
  variables ← variables_at kind.1
  rest ← behind_mark NoMark m.Semicolon variables.1
  Ok (record { stays = (storage ws (static_end ws)).0; kind = kind.0; variables = variables.0 }, rest)
