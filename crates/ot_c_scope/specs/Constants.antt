-- Numbers that are known where they stand (C17, section 6.6).
use Rattle.std.specs.Prelude.{ℕ, ◌+◌, ◌-◌, ◌*◌, ◌/◌, ◌%◌, ◌^◌, ◌==◌, nat_lt, nat_le, Bool, true, false, Option, Some, None, if◌then◌else◌}
use Rattle.ot_c_words.specs.declared.word.IntegerType.{IntegerType}
use Rattle.ot_c_words.specs.declared.word.IntegerType.TheVariants.{UnsignedLong}
use Rattle.ot_c_words.specs.declared.word.Name.{Name}
use Rattle.ot_c_expressions.specs.declared.sign.Sign.{Sign}
use Rattle.ot_c_expressions.specs.declared.sign.Sign.TheVariants as o
use Rattle.ot_c_expressions.specs.Tree.{E, Literal, Variable, CellAt, Unsigned, Signed, Called, Apply, Choose}
use Rattle.ot_c_scope.specs.declared.scope.Sense.{Sense}
use Rattle.ot_c_scope.specs.declared.scope.Sense.TheVariants as s
use Rattle.ot_c_scope.specs.Kinds.{kind_joined, holds, width}
use Rattle.ot_c_scope.specs.Scopes.{Around, sense}

-- a number and its type
abbrev pub Typed : Type 0
Typed = ℕ × IntegerType

abbrev pub constant_held : ℕ → IntegerType → Option Typed
constant_held n k = if holds k n then Some (n, k) else None

abbrev pub named_by : Sense → Option Typed
named_by (s.Constant n k) = Some (n, k)
named_by s.Nothing = None
named_by (s.Turn k) = None
named_by s.Begins = None
named_by (s.Cells k length) = None
named_by (s.Combined o k length) = None
named_by (s.Pointer x p) = None
named_by (s.Function i) = None

abbrev pub name_constant : Around → Name → Option Typed
name_constant a x = named_by (sense a x)

abbrev pub word : ℕ → Option ℕ
word n = if nat_lt n (2 ^ 64) then Some n else None

-- 2^n, where that is a number below 2^64
abbrev pub power : ℕ → Option ℕ
power n = if nat_lt n 64 then Some (2 ^ n) else None

abbrev pub quotient : ℕ → ℕ → Option ℕ
quotient a b = if b == 0 then None else Some (a / b)

abbrev pub remainder : ℕ → ℕ → Option ℕ
remainder a b = if b == 0 then None else Some (a % b)

abbrev pub times_if : ℕ → Option ℕ → Option ℕ
times_if a None = None
times_if a (Some b) = word (a * b)

abbrev pub quotient_if : ℕ → Option ℕ → Option ℕ
quotient_if a None = None
quotient_if a (Some b) = quotient a b

-- the exact result, where it is a number from 0 to 2^64 - 1
abbrev pub exact : Sign → ℕ → ℕ → Option ℕ
exact o.Plus a b = word (a + b)
exact o.Minus a b = if nat_le b a then Some (a - b) else None
exact o.Times a b = word (a * b)
exact o.Over a b = quotient a b
exact o.Rest a b = remainder a b
exact o.ShiftLeft a b = times_if a (power b)
exact o.ShiftRight a b = quotient_if a (power b)
exact o.Or a b = None
exact o.Xor a b = None
exact o.And a b = None
exact o.Equal a b = None
exact o.Less a b = None
exact o.Either a b = None
exact o.Both a b = None
exact o.Unequal a b = None
exact o.More a b = None
exact o.AtMost a b = None
exact o.AtLeast a b = None

abbrev pub held_if : IntegerType → Option ℕ → Option Typed
held_if k None = None
held_if k (Some n) = constant_held n k

abbrev pub is_shift : Sign → Bool
is_shift o.Either = false
is_shift o.Both = false
is_shift o.Or = false
is_shift o.Xor = false
is_shift o.And = false
is_shift o.Equal = false
is_shift o.Unequal = false
is_shift o.Less = false
is_shift o.More = false
is_shift o.AtMost = false
is_shift o.AtLeast = false
is_shift o.ShiftLeft = true
is_shift o.ShiftRight = true
is_shift o.Plus = false
is_shift o.Minus = false
is_shift o.Times = false
is_shift o.Over = false
is_shift o.Rest = false

-- a shift by less than its type has bits
abbrev pub constant_shift : Sign → Typed → Typed → Option Typed
constant_shift sign a b = if nat_lt b.0 (width a.1) then held_if a.1 (exact sign a.0 b.0) else None

abbrev pub constant_operation : Sign → Typed → Typed → Option Typed
constant_operation sign a b = if is_shift sign then constant_shift sign a b else held_if (kind_joined a.1 b.1) (exact sign a.0 b.0)

abbrev pub as_word : Option Typed → Option Typed
as_word None = None
as_word (Some x) = Some (x.0, UnsignedLong)

abbrev pub both : Sign → Option Typed → Option Typed → Option Typed
both sign None two = None
both sign (Some a) None = None
both sign (Some a) (Some b) = constant_operation sign a b

-- numbers, names of constants, and + - * / % << >> of these, each part exact and in its type
unfoldable pub constant : Around → E → Option Typed
constant a (Literal l n k) = Some (n, k)
constant a (Variable l x) = name_constant a x
constant a (CellAt l x i) = None
constant a (Unsigned e) = as_word (constant a e)
constant a (Called l c x y) = None
constant a (Signed l sign e) = None
constant a (Choose l t x y) = None
constant a (Apply l sign x y) = both sign (constant a x) (constant a y)
