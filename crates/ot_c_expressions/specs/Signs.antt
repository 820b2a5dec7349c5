-- Signs between two values, how tightly they bind (C17, section 6.5), the sign at the front, and signs before a value.
use Rattle.std.specs.Prelude.{ℕ, nat_lt, List, ◌∷◌, Option, Some, None, if◌then◌else◌}
use Rattle.ot_c_words.specs.declared.mark.Mark.{Mark}
use Rattle.ot_c_words.specs.declared.mark.Mark.TheVariants as m
use Rattle.ot_c_words.specs.declared.word.Word.{Word}
use Rattle.ot_c_words.specs.declared.word.Word.TheVariants as w
use Rattle.ot_c_expressions.specs.declared.sign.Begin.{Begin}
use Rattle.ot_c_expressions.specs.declared.sign.Begin.TheVariants as b
use Rattle.ot_c_expressions.specs.declared.sign.Sign.{Sign}
use Rattle.ot_c_expressions.specs.declared.sign.Sign.TheVariants as s
use Rattle.ot_c_expressions.specs.declared.sign.Unary.TheVariants as u

abbrev pub view_of_found : {X Y : Type 0} → (X → Y) → Option X → Option Y
view_of_found view None = None
view_of_found view (Some x) = Some (view x)

-- more loosely than all binds `?:`, by 1
abbrev pub binds : Sign → ℕ
binds s.Either = 2
binds s.Both = 3
binds s.Or = 4
binds s.Xor = 5
binds s.And = 6
binds s.Equal = 7
binds s.Unequal = 7
binds s.Less = 8
binds s.More = 8
binds s.AtMost = 8
binds s.AtLeast = 8
binds s.ShiftLeft = 9
binds s.ShiftRight = 9
binds s.Plus = 10
binds s.Minus = 10
binds s.Times = 11
binds s.Over = 11
binds s.Rest = 11

unfoldable pub sign_of : Mark → Option Sign
sign_of m.Either = Some s.Either
sign_of m.Both = Some s.Both
sign_of m.Or = Some s.Or
sign_of m.Xor = Some s.Xor
sign_of m.And = Some s.And
sign_of m.Equal = Some s.Equal
sign_of m.Unequal = Some s.Unequal
sign_of m.Less = Some s.Less
sign_of m.More = Some s.More
sign_of m.AtMost = Some s.AtMost
sign_of m.AtLeast = Some s.AtLeast
sign_of m.ShiftLeft = Some s.ShiftLeft
sign_of m.ShiftRight = Some s.ShiftRight
sign_of m.Plus = Some s.Plus
sign_of m.Minus = Some s.Minus
sign_of m.Times = Some s.Times
sign_of m.Over = Some s.Over
sign_of m.Rest = Some s.Rest
sign_of _ = None

-- how a value begins with a mark, if it may: with a bracket, or a sign before it
unfoldable pub begin_of : Mark → Option Begin
begin_of m.Open = Some b.Bracket
begin_of m.Plus = Some (b.Sign u.Plus)
begin_of m.Minus = Some (b.Sign u.Minus)
begin_of m.Invert = Some (b.Sign u.Invert)
begin_of m.Not = Some (b.Sign u.Not)
begin_of _ = None

abbrev pub sign_read : List Word → Option Sign → Option (Sign × List Word)
sign_read rest None = None
sign_read rest (Some sign) = Some (sign, rest)

unfoldable pub any_sign : List Word → Option (Sign × List Word)
any_sign (w.Mark mark ∷ rest) = sign_read rest (sign_of mark)
any_sign _ = None

abbrev pub if_tight : ℕ → Option (Sign × List Word) → Option (Sign × List Word)
if_tight least None = None
if_tight least (Some p) = if nat_lt (binds p.0) least then None else Some p

-- the sign at the front, where it binds at least so tightly, and what is behind it
abbrev pub front_sign : ℕ → List Word → Option (Sign × List Word)
front_sign least ws = if_tight least (any_sign ws)
