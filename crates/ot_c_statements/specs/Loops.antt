-- Types, and the turns of a loop.
use Rattle.std.specs.Prelude.{ℕ, Bool, true, false, List, ◌∷◌, length, Option, Some, None, Result, Ok, Err, ◌==◌, if◌then◌else◌}
use Rattle.ot_c_words.specs.Reading.{◌>>=◌, behind_mark}
use Rattle.ot_c_words.specs.declared.known.Known.TheVariants as k
use Rattle.ot_c_words.specs.declared.mark.Mark.TheVariants as m
use Rattle.ot_c_words.specs.declared.word.IntegerType.{IntegerType}
use Rattle.ot_c_words.specs.declared.word.IntegerType.TheVariants as t
use Rattle.ot_c_words.specs.declared.word.Name.{Name}
use Rattle.ot_c_words.specs.declared.word.Name.TheVariants as n
use Rattle.ot_c_words.specs.declared.word.Word.{Word}
use Rattle.ot_c_words.specs.declared.word.Word.TheVariants as w
use Rattle.ot_c_expressions.specs.Tree.{E}
use Rattle.ot_c_statements.specs.declared.fault.Fault.{Fault}
use Rattle.ot_c_statements.specs.declared.fault.Fault.TheVariants.{NoMark, NoType, NoVariable, OtherVariable, OtherStep}
use Rattle.ot_c_statements.specs.Tree.{Course}
use Rattle.ot_c_statements.specs.Reading.{Behind, value}

-- ---- types

-- the type that a word says, where `long` has 64 bits
unfoldable pub type_word : Name → Option IntegerType
type_word (n.Known k.Int) = Some t.Int
type_word (n.Known k.Unsigned) = Some t.Unsigned
type_word (n.Known k.Long) = Some t.Long
type_word (n.Known k.Word64) = Some t.UnsignedLong
type_word (n.Known k.Size) = Some t.UnsignedLong
type_word _ = None

-- behind `unsigned`
unfoldable pub unsigned_word : Name → Option IntegerType
unsigned_word (n.Known k.Int) = Some t.Unsigned
unsigned_word (n.Known k.Long) = Some t.UnsignedLong
unsigned_word _ = None

abbrev pub as_unsigned : List Word → List Word → Option IntegerType → IntegerType × List Word
as_unsigned ws rest (Some kind) = (kind, rest)
as_unsigned ws rest None = (t.Unsigned, ws)

unfoldable pub unsigned_at : List Word → IntegerType × List Word
unsigned_at (w.Name n ∷ ws) = as_unsigned (w.Name n ∷ ws) ws (unsigned_word n)
unsigned_at ws = (t.Unsigned, ws)

-- a type, behind its first word
abbrev pub type_behind : IntegerType → List Word → IntegerType × List Word
type_behind t.Unsigned ws = unsigned_at ws
type_behind t.Int ws = (t.Int, ws)
type_behind t.Long ws = (t.Long, ws)
type_behind t.UnsignedLong ws = (t.UnsignedLong, ws)

abbrev pub as_type : List Word → List Word → Option IntegerType → Result (IntegerType × List Word) Fault
as_type ws rest (Some kind) = Ok (type_behind kind rest)
as_type ws rest None = Err (NoType (length ws))

unfoldable pub type_at : List Word → Result (IntegerType × List Word) Fault
type_at (w.Name n ∷ ws) = as_type (w.Name n ∷ ws) ws (type_word n)
type_at ws = Err (NoType (length ws))

-- ---- a loop's variable

unfoldable pub variable_at : List Word → Result (ℕ × List Word) Fault
variable_at (w.Name (n.Other i) ∷ ws) = Ok (i, ws)
variable_at ws = Err (NoVariable (length ws))

-- this one, and no other
unfoldable pub this_at : ℕ → List Word → Behind
this_at wanted ws = variable_at ws >>= λ x. if x.0 == wanted then Ok x.1 else Err (OtherVariable (length ws))

-- `<` or `<=`: whether the end has a turn too
unfoldable pub until_at : List Word → Result (Bool × List Word) Fault
until_at (w.Mark m.Less ∷ ws) = Ok (false, ws)
until_at (w.Mark m.AtMost ∷ ws) = Ok (true, ws)
until_at ws = Err (NoMark (length ws))

-- behind a variable: `++` or `+= 1`
unfoldable pub advance_at : List Word → Behind
advance_at (w.Mark m.Increment ∷ ws) = Ok ws
advance_at (w.Mark m.AddAssign ∷ w.Number n t ∷ ws) = if n == 1 then Ok ws else Err (OtherStep (length (w.Mark m.AddAssign ∷ w.Number n t ∷ ws)))
advance_at ws = Err (OtherStep (length ws))

-- `i++`, `i += 1` or `++i`
unfoldable pub step_at : ℕ → List Word → Behind
step_at wanted (w.Mark m.Increment ∷ ws) = this_at wanted ws
step_at wanted ws = this_at wanted ws >>= λ rest. advance_at rest

-- ---- turns

-- `(uint64_t i = 0;`
unfoldable pub first_at : List Word → Result (IntegerType × ℕ × ℕ × E × List Word) Fault
first_at ws = do
  a ← behind_mark NoMark m.Open ws
  kind ← type_at a
  variable ← variable_at kind.1
  b ← behind_mark NoMark m.Assign variable.1
  start ← value b
  rest ← behind_mark NoMark m.Semicolon start.1
  Ok (kind.0, length kind.1, variable.0, start.0, rest)

-- `i < 8; i++)`
unfoldable pub last_at : ℕ → List Word → Result (Bool × E × List Word) Fault
last_at variable ws = do
  a ← this_at variable ws
  through ← until_at a
  end ← value through.1
  b ← behind_mark NoMark m.Semicolon end.1
  c ← step_at variable b
  rest ← behind_mark NoMark m.Close c
  Ok (through.0, end.0, rest)

-- behind `for`
unfoldable pub course_at : List Word → Result (Course × List Word) Fault
course_at ws = do
  first ← first_at ws
  last ← last_at first.2 first.4
  Ok (record { left = first.1; variable = first.2; kind = first.0; start = first.3; end = last.1; through = last.0 }, last.2)
