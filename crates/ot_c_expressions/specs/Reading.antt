-- Reading values from left to right, with the first fault that is met.
use Rattle.std.specs.Prelude.{ℕ, zero, suc, ◌+◌, nat_le, Bool, true, false, List, ◌∷◌, length, Option, Some, None, Result, Ok, Err, if◌then◌else◌}
use Rattle.ot_c_words.specs.Reading.{◌>>=◌, behind_mark}
use Rattle.ot_c_words.specs.declared.known.Known.TheVariants as k
use Rattle.ot_c_words.specs.declared.mark.Mark.TheVariants as m
use Rattle.ot_c_words.specs.declared.word.Name.{Name}
use Rattle.ot_c_words.specs.declared.word.Name.TheVariants as n
use Rattle.ot_c_words.specs.declared.word.Word.{Word}
use Rattle.ot_c_words.specs.declared.word.Word.TheVariants as w
use Rattle.ot_c_expressions.specs.declared.fault.Fault.{Fault}
use Rattle.ot_c_expressions.specs.declared.fault.Fault.TheVariants.{NoValue, NoMark, TooDeep}
use Rattle.ot_c_expressions.specs.declared.sign.Begin.{Begin}
use Rattle.ot_c_expressions.specs.declared.sign.Begin.TheVariants as begins
use Rattle.ot_c_expressions.specs.declared.sign.Sign.{Sign}
use Rattle.ot_c_expressions.specs.declared.sign.Unary.{Unary}
use Rattle.ot_c_expressions.specs.declared.tree.Call.{Call}
use Rattle.ot_c_expressions.specs.declared.tree.Call.TheVariants as c
use Rattle.ot_c_expressions.specs.Signs.{binds, begin_of, front_sign}
use Rattle.ot_c_expressions.specs.Tree.{E, Literal, Variable, CellAt, Unsigned, Signed, Called, Apply, Choose}

-- ---- operands

-- a value, and the words behind it
abbrev pub Read : Type 0
Read = Result (E × List Word) Fault

unfoldable pub call_of : Name → Option Call
call_of (n.Known k.Min) = Some c.Min
call_of (n.Known k.Max) = Some c.Max
call_of _ = None

unfoldable pub is_unsigned : Name → Bool
is_unsigned (n.Known k.Word64) = true
is_unsigned _ = false

-- behind `uint64_t )`
unfoldable pub cast_end : List Word → Option (List Word)
cast_end (w.Name n ∷ w.Mark m.Close ∷ ws) = if is_unsigned n then Some ws else None
cast_end _ = None

unfoldable pub indexed_at : (ℕ → List Word → Read) → Name → List Word → Read
indexed_at inner a ws = inner 1 ws >>= λ x. behind_mark NoMark m.CloseIndex x.1 >>= λ rest. Ok (CellAt (length (w.Mark m.OpenIndex ∷ ws) + 1) a x.0, rest)

unfoldable pub named_at : (ℕ → List Word → Read) → Name → List Word → Read
named_at inner a (w.Mark m.OpenIndex ∷ ws) = indexed_at inner a ws
named_at inner a ws = Ok (Variable (length ws + 1) a, ws)

unfoldable pub called_at : (ℕ → List Word → Read) → Call → List Word → Read
called_at inner call ws = do
  a ← behind_mark NoMark m.Open ws
  one ← inner 1 a
  b ← behind_mark NoMark m.Comma one.1
  two ← inner 1 b
  rest ← behind_mark NoMark m.Close two.1
  Ok (Called (length ws + 1) call one.0 two.0, rest)

abbrev pub name_or_call : (ℕ → List Word → Read) → Option Call → Name → List Word → Read
name_or_call inner (Some call) n ws = called_at inner call ws
name_or_call inner None n ws = named_at inner n ws

-- more tightly than any sign between two values binds one before a value, and a type in brackets
abbrev pub tightest : ℕ
tightest = 12

abbrev pub cast_or_closed : (ℕ → List Word → Read) → List Word → Option (List Word) → Read
cast_or_closed inner ws (Some rest) = inner tightest rest >>= λ x. Ok (Unsigned x.0, x.1)
cast_or_closed inner ws None = inner 1 ws >>= λ x. behind_mark NoMark m.Close x.1 >>= λ rest. Ok (x.0, rest)

-- behind a bracket: a type and a value, or a value and the bracket's end
unfoldable pub bracket_at : (ℕ → List Word → Read) → List Word → Read
bracket_at inner ws = cast_or_closed inner ws (cast_end ws)

-- behind a sign before a value
unfoldable pub prefixed_at : (ℕ → List Word → Read) → Unary → List Word → Read
prefixed_at inner sign ws = inner tightest ws >>= λ x. Ok (Signed (length ws + 1) sign x.0, x.1)

abbrev pub marked_at : (ℕ → List Word → Read) → Option Begin → List Word → List Word → Read
marked_at inner (Some begins.Bracket) ws rest = bracket_at inner rest
marked_at inner (Some (begins.Sign sign)) ws rest = prefixed_at inner sign rest
marked_at inner None ws rest = Err (NoValue (length ws))

unfoldable pub operand_at : (ℕ → List Word → Read) → List Word → Read
operand_at inner (w.Number n t ∷ ws) = Ok (Literal (length (w.Number n t ∷ ws)) n t, ws)
operand_at inner (w.Name n ∷ ws) = name_or_call inner (call_of n) n ws
operand_at inner (w.Mark mark ∷ ws) = marked_at inner (begin_of mark) (w.Mark mark ∷ ws) ws
operand_at inner ws = Err (NoValue (length ws))

-- ---- values

-- at the sign that is found: the value behind it, and what goes on behind both
abbrev pub go_on : (ℕ → List Word → Read) → (E → List Word → Read) → E → List Word → Option (Sign × List Word) → Read
go_on inner next left ws None = Ok (left, ws)
go_on inner next left ws (Some p) = inner (binds p.0 + 1) p.1 >>= λ x. next (Apply (length ws) p.0 left x.0) x.1

abbrev pub too_long : E → List Word → Option (Sign × List Word) → Read
too_long left ws None = Ok (left, ws)
too_long left ws (Some p) = Err (TooDeep (length ws))

unfoldable pub more_at : (ℕ → List Word → Read) → ℕ → ℕ → E → List Word → Read
more_at inner zero least left ws = too_long left ws (front_sign least ws)
more_at inner (suc t) least left ws = go_on inner (more_at inner t least) left ws (front_sign least ws)

-- behind `?`, where a choice may stand
unfoldable pub question_at : ℕ → List Word → Option (List Word)
question_at least (w.Mark m.Question ∷ ws) = if nat_le least 1 then Some ws else None
question_at least ws = None

abbrev pub choice_read : (ℕ → List Word → Read) → E → List Word → Option (List Word) → Read
choice_read inner test ws None = Ok (test, ws)
choice_read inner test ws (Some rest) = do
  one ← inner 1 rest
  behind ← behind_mark NoMark m.Colon one.1
  other ← inner 1 behind
  Ok (Choose (length ws) test one.0 other.0, other.1)

-- a choice that a test begins, or the test alone
unfoldable pub choice_at : (ℕ → List Word → Read) → ℕ → E → List Word → Read
choice_at inner least test ws = choice_read inner test ws (question_at least ws)

unfoldable pub value_at : ℕ → ℕ → List Word → Read
value_at zero least ws = Err (TooDeep (length ws))
value_at (suc d) least ws = operand_at (value_at d) ws >>= λ x. more_at (value_at d) 24 least x.0 x.1 >>= λ y. choice_at (value_at d) least y.0 y.1
