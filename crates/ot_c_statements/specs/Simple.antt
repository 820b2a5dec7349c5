-- Statements without a body: assignments, calls, and what shows cells.
use Rattle.std.specs.Prelude.{ℕ, ◌+◌, Bool, true, false, drop, List, [], ◌∷◌, length, Option, Some, None, Result, Ok, Err}
use Rattle.std.specs.List.{prefix_len}
use Rattle.ot_c_words.specs.Reading.{◌>>=◌, behind_mark, name_at}
use Rattle.ot_c_words.specs.declared.mark.Mark.{Mark}
use Rattle.ot_c_words.specs.declared.mark.Mark.TheVariants as m
use Rattle.ot_c_words.specs.declared.word.IntegerType.TheVariants as t
use Rattle.ot_c_words.specs.declared.word.Name.{Name}
use Rattle.ot_c_words.specs.declared.word.Word.{Word}
use Rattle.ot_c_words.specs.declared.word.Word.TheVariants as w
use Rattle.ot_c_expressions.specs.declared.sign.Sign.{Sign}
use Rattle.ot_c_expressions.specs.declared.sign.Sign.TheVariants as s
use Rattle.ot_c_expressions.specs.Tree.{E, Literal}
use Rattle.ot_c_statements.specs.declared.fault.Fault.{Fault}
use Rattle.ot_c_statements.specs.declared.fault.Fault.TheVariants.{NoMark, NoName, Declared}
use Rattle.ot_c_statements.specs.declared.simple.Change.{Change}
use Rattle.ot_c_statements.specs.declared.simple.Change.TheVariants as c
use Rattle.ot_c_statements.specs.Tree.{Aim, Site, S, Assign, Call, Print, Show, Point}
use Rattle.ot_c_statements.specs.Reading.{text_at, index_at, value, values}

abbrev pub One : Type 0
One = Result (S × List Word) Fault

-- ---- assignments

unfoldable pub change_of : Mark → Option Change
change_of m.Assign = Some c.Sets
change_of m.AddAssign = Some (c.By s.Plus)
change_of m.SubtractAssign = Some (c.By s.Minus)
change_of m.MultiplyAssign = Some (c.By s.Times)
change_of m.AndAssign = Some (c.By s.And)
change_of m.OrAssign = Some (c.By s.Or)
change_of m.XorAssign = Some (c.By s.Xor)
change_of m.Increment = Some (c.ByOne s.Plus)
change_of m.Decrement = Some (c.ByOne s.Minus)
change_of _ = None

abbrev pub Changed : Type 0
Changed = Result (Option Sign × E × List Word) Fault

-- behind its mark: the sign, if there is one, and the value
abbrev pub changed_by : Change → List Word → Changed
changed_by c.Sets ws = value ws >>= λ x. Ok (None, x.0, x.1)
changed_by (c.By sign) ws = value ws >>= λ x. Ok (Some sign, x.0, x.1)
changed_by (c.ByOne sign) ws = Ok (Some sign, Literal (length ws + 1) 1 t.Int, ws)

abbrev pub as_change : List Word → List Word → Option Change → Changed
as_change ws rest (Some change) = changed_by change rest
as_change ws rest None = Err (NoMark (length ws))

unfoldable pub change_at : List Word → Changed
change_at (w.Mark mark ∷ ws) = as_change (w.Mark mark ∷ ws) ws (change_of mark)
change_at ws = Err (NoMark (length ws))

-- behind a name: a cell's place, or nothing
unfoldable pub target_at : ℕ → Name → List Word → Result (Aim × List Word) Fault
target_at left a ws = index_at ws >>= λ x. Ok (record { left = left; array = a; index = x.0 }, x.1)

unfoldable pub assignment_at : ℕ → Name → List Word → One
assignment_at left a ws = do
  target ← target_at left a ws
  change ← change_at target.1
  rest ← behind_mark NoMark m.Semicolon change.2
  Ok (Assign left target.0 change.0 change.1, rest)

-- ---- calls

-- behind the bracket
unfoldable pub arguments_at : List Word → Result (List E × List Word) Fault
arguments_at (w.Mark m.Close ∷ ws) = Ok ([], ws)
arguments_at ws = values ws >>= λ x. behind_mark NoMark m.Close x.1 >>= λ rest. Ok (x.0, rest)

unfoldable pub call_at : ℕ → Name → List Word → One
call_at left f ws = arguments_at ws >>= λ x. behind_mark NoMark m.Semicolon x.1 >>= λ rest. Ok (Call left f x.0, rest)

-- behind a name: a call or an assignment
unfoldable pub named_at : ℕ → Name → List Word → One
named_at left n (w.Mark m.Open ∷ ws) = call_at left n ws
named_at left n ws = assignment_at left n ws

-- ---- what shows cells

-- a string, or a name that stands for one, as `PRIu64` does
unfoldable pub is_text : Word → Bool
is_text w.Text = true
is_text (w.Name n) = true
is_text _ = false

-- how many words go on with a text
abbrev pub text_len : List Word → ℕ
text_len ws = prefix_len is_text ws

-- behind the text of `printf`
unfoldable pub printed_at : List Word → Result (List E × List Word) Fault
printed_at (w.Mark m.Comma ∷ ws) = values ws >>= λ x. behind_mark NoMark m.Close x.1 >>= λ rest. Ok (x.0, rest)
printed_at ws = behind_mark NoMark m.Close ws >>= λ rest. Ok ([], rest)

-- behind `printf`
unfoldable pub print_at : ℕ → List Word → One
print_at left ws = do
  a ← behind_mark NoMark m.Open ws
  b ← text_at a
  shown ← printed_at (drop (text_len b) b)
  rest ← behind_mark NoMark m.Semicolon shown.1
  Ok (Print left shown.0, rest)

-- `&a[0]`
unfoldable pub cell_at : List Word → Result (Site × List Word) Fault
cell_at ws = do
  a ← behind_mark NoMark m.And ws
  array ← name_at NoName a
  b ← behind_mark NoMark m.OpenIndex array.1
  index ← value b
  rest ← behind_mark NoMark m.CloseIndex index.1
  Ok (record { left = length a; array = array.0; index = index.0 }, rest)

-- behind `show`
unfoldable pub show_at : ℕ → List Word → One
show_at left ws = do
  a ← behind_mark NoMark m.Open ws
  cell ← cell_at a
  b ← behind_mark NoMark m.Comma cell.1
  count ← value b
  c ← behind_mark NoMark m.Close count.1
  rest ← behind_mark NoMark m.Semicolon c
  Ok (Show left cell.0 count.0, rest)

-- behind `uint64_t *`
unfoldable pub pointer_at : List Word → One
pointer_at ws = do
  pointer ← name_at NoName ws
  a ← behind_mark NoMark m.Assign pointer.1
  cell ← cell_at a
  rest ← behind_mark NoMark m.Semicolon cell.1
  Ok (Point (length ws) pointer.0 cell.0, rest)

-- behind `uint64_t` or `size_t` in a block: a pointer to a cell, and nothing else
unfoldable pub local_at : ℕ → List Word → One
local_at left (w.Mark m.Times ∷ ws) = pointer_at ws
local_at left ws = Err (Declared left)
