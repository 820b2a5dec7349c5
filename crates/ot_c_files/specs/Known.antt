-- Functions that are known by their bodies, which read so but for their parameters' names:
-- `static uint64_t min(uint64_t one, uint64_t two) { return one < two ? one : two; }`, `max` likewise, and
-- `static void show(const uint64_t *cells, size_t count)`, which only prints.
use Rattle.std.specs.Prelude.{ℕ, ◌==◌, List, ◌∷◌, length, Option, Some, None, Result, Ok, Err, if◌then◌else◌}
use Rattle.ot_c_words.specs.Reading.{◌>>=◌, behind_mark}
use Rattle.ot_c_words.specs.declared.known.Known.TheVariants as k
use Rattle.ot_c_words.specs.declared.mark.Mark.TheVariants as m
use Rattle.ot_c_words.specs.declared.word.IntegerType.{IntegerType}
use Rattle.ot_c_words.specs.declared.word.IntegerType.TheVariants as t
use Rattle.ot_c_words.specs.declared.word.Name.{Name}
use Rattle.ot_c_words.specs.declared.word.Name.TheVariants as n
use Rattle.ot_c_words.specs.declared.word.Word.{Word}
use Rattle.ot_c_words.specs.declared.word.Word.TheVariants as w
use Rattle.ot_c_statements.specs.declared.fault.Fault.{Fault}
use Rattle.ot_c_statements.specs.declared.fault.Fault.TheVariants.{NoMark, NoName, NoType}
use Rattle.ot_c_statements.specs.Reading.{Behind, text_at}
use Rattle.ot_c_statements.specs.Loops.{type_at}
use Rattle.ot_c_files.specs.declared.known.Function.{Function}
use Rattle.ot_c_files.specs.declared.known.Function.TheVariants as f
use Rattle.ot_c_files.specs.Declarations.{static_end}
use Rattle.ot_c_files.specs.Fixed.{return_at, const_at, for_at, printf_at, zero_at, letter_at, own_name_at, this_name_at}

abbrev pub word_by : List Word → IntegerType → List Word → Result (ℕ × List Word) Fault
word_by ws t.UnsignedLong rest = own_name_at rest
word_by ws t.Int rest = Err (NoType (length ws))
word_by ws t.Unsigned rest = Err (NoType (length ws))
word_by ws t.Long rest = Err (NoType (length ws))

-- `uint64_t x`, or another name for the type
unfoldable pub word_at : List Word → Result (ℕ × List Word) Fault
word_at ws = type_at ws >>= λ x. word_by ws x.0 x.1

-- `(uint64_t x, uint64_t y) {`
unfoldable pub sides_at : List Word → Result (ℕ × ℕ × List Word) Fault
sides_at ws = do
  a ← behind_mark NoMark m.Open ws
  one ← word_at a
  b ← behind_mark NoMark m.Comma one.1
  two ← word_at b
  c ← behind_mark NoMark m.Close two.1
  rest ← behind_mark NoMark m.OpenBlock c
  if one.0 == two.0 then Err (NoName (length rest)) else Ok (one.0, two.0, rest)

-- `return x < y ? x : y; }`, or the other way about
unfoldable pub chosen_at : ℕ → ℕ → ℕ → ℕ → List Word → Behind
chosen_at one two first second ws = do
  a ← return_at ws
  b ← this_name_at one a
  c ← behind_mark NoMark m.Less b
  d ← this_name_at two c
  e ← behind_mark NoMark m.Question d
  g ← this_name_at first e
  h ← behind_mark NoMark m.Colon g
  i ← this_name_at second h
  j ← behind_mark NoMark m.Semicolon i
  behind_mark NoMark m.CloseBlock j

-- the lesser of two
unfoldable pub min_at : List Word → Behind
min_at ws = sides_at ws >>= λ x. chosen_at x.0 x.1 x.0 x.1 x.2

-- the greater of two
unfoldable pub max_at : List Word → Behind
max_at ws = sides_at ws >>= λ x. chosen_at x.0 x.1 x.1 x.0 x.2

-- ---- what only prints

-- `(const uint64_t *cells, size_t count) {`
unfoldable pub shown_at : List Word → Result (ℕ × ℕ × List Word) Fault
shown_at ws = do
  a ← behind_mark NoMark m.Open ws
  b ← const_at a
  kind ← type_at b
  c ← behind_mark NoMark m.Times kind.1
  cells ← own_name_at c
  d ← behind_mark NoMark m.Comma cells.1
  count ← word_at d
  e ← behind_mark NoMark m.Close count.1
  rest ← behind_mark NoMark m.OpenBlock e
  Ok (cells.0, count.0, rest)

-- `for (size_t i = 0; i < count; i++)`
unfoldable pub each_at : ℕ → List Word → Result (ℕ × List Word) Fault
each_at count ws = do
  a ← for_at ws
  b ← behind_mark NoMark m.Open a
  place ← word_at b
  c ← behind_mark NoMark m.Assign place.1
  d ← zero_at c
  e ← behind_mark NoMark m.Semicolon d
  g ← this_name_at place.0 e
  h ← behind_mark NoMark m.Less g
  i ← this_name_at count h
  j ← behind_mark NoMark m.Semicolon i
  l ← this_name_at place.0 j
  o ← behind_mark NoMark m.Increment l
  rest ← behind_mark NoMark m.Close o
  Ok (place.0, rest)

-- `i == 0 ? '[' : ',', `
unfoldable pub mark_at : ℕ → List Word → Behind
mark_at place ws = do
  a ← this_name_at place ws
  b ← behind_mark NoMark m.Equal a
  c ← zero_at b
  d ← behind_mark NoMark m.Question c
  e ← letter_at 91 d
  g ← behind_mark NoMark m.Colon e
  h ← letter_at 44 g
  behind_mark NoMark m.Comma h

-- `printf("%c%" PRIu64, i == 0 ? '[' : ',', cells[i]);`
unfoldable pub cell_at : ℕ → ℕ → List Word → Behind
cell_at cells place ws = do
  a ← printf_at ws
  b ← behind_mark NoMark m.Open a
  c ← text_at b
  kind ← own_name_at c
  d ← behind_mark NoMark m.Comma kind.1
  e ← mark_at place d
  g ← this_name_at cells e
  h ← behind_mark NoMark m.OpenIndex g
  i ← this_name_at place h
  j ← behind_mark NoMark m.CloseIndex i
  l ← behind_mark NoMark m.Close j
  behind_mark NoMark m.Semicolon l

-- `printf("]"); }`
unfoldable pub ended_at : List Word → Behind
ended_at ws = do
  a ← printf_at ws
  b ← behind_mark NoMark m.Open a
  c ← text_at b
  d ← behind_mark NoMark m.Close c
  e ← behind_mark NoMark m.Semicolon d
  behind_mark NoMark m.CloseBlock e

-- each of some cells is printed
unfoldable pub show_at : List Word → Behind
show_at ws = do
  head ← shown_at ws
  each ← each_at head.1 head.2
  a ← cell_at head.0 each.0 each.1
  ended_at a

-- ---- by their names

unfoldable pub which : Name → Name → Option Function
which (n.Known k.Word64) (n.Known k.Min) = Some f.Min
which (n.Known k.Word64) (n.Known k.Max) = Some f.Max
which (n.Known k.Void) (n.Known k.Show) = Some f.Show
which kind name = None

abbrev pub begun_by : Option Function → List Word → Option (Function × List Word)
begun_by None ws = None
begun_by (Some g) ws = Some (g, ws)

unfoldable pub begun_at : List Word → Option (Function × List Word)
begun_at (w.Name kind ∷ w.Name name ∷ ws) = begun_by (which kind name) ws
begun_at _ = None

abbrev pub known_behind : List Word → Option (List Word) → Option (Function × List Word)
known_behind ws (Some rest) = begun_at rest
known_behind ws None = begun_at ws

-- which known function begins here, and what is behind its name
abbrev pub known_begin : List Word → Option (Function × List Word)
known_begin ws = known_behind ws (static_end ws)

-- behind its name: its parameters and its body
abbrev pub known_end : Function → List Word → Behind
known_end f.Min ws = min_at ws
known_end f.Max ws = max_at ws
known_end f.Show ws = show_at ws
