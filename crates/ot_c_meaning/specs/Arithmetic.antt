-- Arithmetic: operations of values, in the types that they have in C. Each is in the language what it is in C, modulo 2^64.
use Rattle.std.specs.Prelude.{ℕ, ◌-◌, ◌^◌, ◌==◌, nat_lt, Bool, true, false, not, ◌&&◌, ◌||◌, List, [], ◌∷◌, Option, Some, None, Result, Ok, Err, codes, bit_and, if◌then◌else◌}
use Rattle.serde_json.specs.Data.{Data}
use Rattle.serde_json.specs.View.{view}
use Rattle.ot_c_words.specs.declared.word.IntegerType.{IntegerType}
use Rattle.ot_c_words.specs.declared.word.IntegerType.TheVariants.{Int, UnsignedLong}
use Rattle.ot_c_expressions.specs.declared.sign.Sign.{Sign}
use Rattle.ot_c_expressions.specs.declared.sign.Sign.TheVariants as o
use Rattle.ot_c_expressions.specs.declared.sign.Unary.{Unary}
use Rattle.ot_c_expressions.specs.declared.sign.Unary.TheVariants as u
use Rattle.ot_c_expressions.specs.declared.tree.Call.{Call}
use Rattle.ot_c_expressions.specs.declared.tree.Call.TheVariants as c
use Rattle.ot_c_scope.specs.declared.reason.Reason.{Reason}
use Rattle.ot_c_scope.specs.declared.reason.Reason.TheVariants as why
use Rattle.ot_c_scope.specs.Constants.{Typed, power}
use Rattle.ot_c_scope.specs.Forms.{nat, form}
use Rattle.ot_c_scope.specs.Kinds.{kind_joined, is_word, is_narrow, is_signed}
use Rattle.ot_c_scope.specs.Results.{Refusal, ◌>>=◌}
use Rattle.ot_c_meaning.specs.declared.arithmetic.Basic.{Basic}
use Rattle.ot_c_meaning.specs.declared.arithmetic.Basic.TheVariants as op
use Rattle.ot_c_meaning.specs.declared.arithmetic.Manner.{Manner}
use Rattle.ot_c_meaning.specs.declared.arithmetic.Manner.TheVariants as manners
use Rattle.ot_c_meaning.specs.declared.arithmetic.Way.{Way}
use Rattle.ot_c_meaning.specs.declared.arithmetic.Way.TheVariants as ways
use Rattle.ot_c_meaning.specs.declared.arithmetic.Worth.{Worth}

-- a value, with the type that it has in C, and whether it is known to be no negative number there
pub record W : Type 0 where
  pub text : Data
  pub kind : IntegerType
  pub whole : Bool

abbrev pub worth_of : Worth → W
worth_of w = record { text = view w.value; kind = w.kind; whole = w.whole }

abbrev pub Valued : Type 0
Valued = Result W Refusal

-- of type `uint64_t`
abbrev pub word_value : Data → W
word_value d = record { text = d; kind = UnsignedLong; whole = true }

abbrev pub whole : Data → IntegerType → W
whole d k = record { text = d; kind = k; whole = true }

-- of a type, as cells hold them
abbrev pub held_value : Data → IntegerType → W
held_value d k = record { text = d; kind = k; whole = not (is_signed k) }

-- ---- operations

-- what two values with a sign between become
abbrev pub way_of : Sign → Way
way_of o.Or = ways.Plain manners.Is op.Or
way_of o.Xor = ways.Plain manners.Is op.Xor
way_of o.And = ways.Plain manners.Is op.And
way_of o.Equal = ways.Plain manners.Is op.Equal
way_of o.Unequal = ways.Plain manners.Not op.Equal
way_of o.Less = ways.Plain manners.Is op.Less
way_of o.More = ways.Plain manners.Turned op.Less
way_of o.AtMost = ways.Plain manners.TurnedNot op.Less
way_of o.AtLeast = ways.Plain manners.Not op.Less
way_of o.Plus = ways.Plain manners.Is op.Plus
way_of o.Minus = ways.Plain manners.Is op.Minus
way_of o.Times = ways.Plain manners.Is op.Times
way_of o.Both = ways.Lazy op.And
way_of o.Either = ways.Lazy op.Or
way_of o.ShiftLeft = ways.Shift
way_of o.Rest = ways.Rest
way_of o.Over = ways.Known
way_of o.ShiftRight = ways.Known

abbrev pub basic_word : Basic → List ℕ
basic_word op.Or = codes "|"
basic_word op.Xor = codes "^"
basic_word op.And = codes "&"
basic_word op.Equal = codes "="
basic_word op.Less = codes "<"
basic_word op.Plus = codes "+"
basic_word op.Minus = codes "-"
basic_word op.Times = codes "*"

abbrev pub call_word : Call → List ℕ
call_word c.Min = codes "min"
call_word c.Max = codes "max"

-- Whether the language computes in numbers of 64 bits what C does in a type, of numbers that aren't negative or may be.
-- Where a signed result is too large for its type, C gives the program no meaning.
abbrev pub agrees : Basic → IntegerType → Bool → Bool
agrees op.Or k w = w || not (is_narrow k)
agrees op.Xor k w = w || not (is_narrow k)
agrees op.And k w = w || not (is_narrow k)
agrees op.Equal k w = w || not (is_narrow k)
agrees op.Less k w = w || is_word k
agrees op.Plus k w = not (is_narrow k)
agrees op.Minus k w = not (is_narrow k)
agrees op.Times k w = not (is_narrow k)

abbrev pub disagrees : Basic → Reason
disagrees op.Or = why.Wraps
disagrees op.Xor = why.Wraps
disagrees op.And = why.Wraps
disagrees op.Equal = why.Wraps
disagrees op.Less = why.Signed
disagrees op.Plus = why.Wraps
disagrees op.Minus = why.Wraps
disagrees op.Times = why.Wraps

-- the type of a result
abbrev pub result_kind : Basic → IntegerType → IntegerType
result_kind op.Or k = k
result_kind op.Xor k = k
result_kind op.And k = k
result_kind op.Equal k = Int
result_kind op.Less k = Int
result_kind op.Plus k = k
result_kind op.Minus k = k
result_kind op.Times k = k

-- whether a result isn't negative
abbrev pub result_whole : Basic → IntegerType → Bool → Bool
result_whole op.Or k w = w || is_word k
result_whole op.Xor k w = w || is_word k
result_whole op.And k w = w || is_word k
result_whole op.Equal k w = true
result_whole op.Less k w = true
result_whole op.Plus k w = w || is_word k
result_whole op.Minus k w = is_word k
result_whole op.Times k w = w || is_word k

-- a test for less of numbers of a signed type that may be negative
abbrev pub is_raised : Basic → IntegerType → Bool → Bool
is_raised op.Less k w = is_signed k && not w
is_raised op.Or k w = false
is_raised op.Xor k w = false
is_raised op.And k w = false
is_raised op.Equal k w = false
is_raised op.Plus k w = false
is_raised op.Minus k w = false
is_raised op.Times k w = false

abbrev pub raised_form : Data → Data
raised_form x = form (codes "+") (x ∷ nat (2 ^ 63) ∷ [])

-- with 2^63 more both are, in their order, from 0 to 2^64 - 1
abbrev pub raised_less : Data → Data → W
raised_less x y = whole (form (codes "<") (raised_form x ∷ raised_form y ∷ [])) Int

abbrev pub applied_in : ℕ → Basic → IntegerType → Bool → Data → Data → Valued
applied_in at basic k w x y = if is_raised basic k w then Ok (raised_less x y) else if agrees basic k w then Ok (record { text = form (basic_word basic) (x ∷ y ∷ []); kind = result_kind basic k; whole = result_whole basic k w }) else Err (at, disagrees basic)

-- an operation of two values
abbrev pub operation_value : ℕ → Basic → W → W → Valued
operation_value at basic x y = applied_in at basic (kind_joined x.kind y.kind) (x.whole && y.whole) x.text y.text

-- a number of type `int`
abbrev pub int : ℕ → W
int n = whole (nat n) Int

-- whether a value is 0
abbrev pub denial_value : ℕ → W → Valued
denial_value at x = operation_value at op.Equal x (int 0)

-- whether a value isn't 0
abbrev pub truth : ℕ → W → Valued
truth at x = denial_value at x >>= λ none. denial_value at none

-- in C `x > y` is `y < x`, `x != y` is `!(x == y)`, `x <= y` is `!(y < x)`, and `x >= y` is `!(x < y)`
abbrev pub manner_value : ℕ → Manner → Basic → W → W → Valued
manner_value at manners.Is basic x y = operation_value at basic x y
manner_value at manners.Turned basic x y = operation_value at basic y x
manner_value at manners.Not basic x y = operation_value at basic x y >>= λ z. denial_value at z
manner_value at manners.TurnedNot basic x y = operation_value at basic y x >>= λ z. denial_value at z

-- in C `-x` is `0 - x`, `!x` is `x == 0`, and `~x` is `0 - 1 - x`
abbrev pub sign_value : ℕ → Unary → W → Valued
sign_value at u.Plus x = Ok x
sign_value at u.Minus x = operation_value at op.Minus (int 0) x
sign_value at u.Not x = denial_value at x
sign_value at u.Invert x = operation_value at op.Minus (int 0) (int 1) >>= λ below. operation_value at op.Minus below x

-- `x && y` is `!!x & !!y`, and `x || y` is `!!x | !!y`, where it is the same whether y is computed
abbrev pub lazily : ℕ → Basic → W → W → Valued
lazily at basic x y = truth at x >>= λ a. truth at y >>= λ c. operation_value at basic a c

-- `t ? x : y` is `y + !!t * (x - y)`, where it is the same whether x and y are computed; it isn't negative where neither is
abbrev pub choice_value : ℕ → W → W → W → W → Valued
choice_value at t x y again =
    truth at t >>= λ a.
    operation_value at op.Minus x y >>= λ more.
    operation_value at op.Times a more >>= λ part.
    operation_value at op.Plus again part >>= λ sum.
    Ok (record sum { whole = sum.whole || x.whole && y.whole })

-- a number that is known, or why none is
abbrev pub number_known : ℕ → Option Typed → Reason → Valued
number_known at None reason = Err (at, reason)
number_known at (Some x) reason = Ok (whole (nat x.0) x.1)

abbrev pub shifted_by : ℕ → W → Option ℕ → Valued
shifted_by at x None = Err (at, why.Shift)
shifted_by at x (Some n) = operation_value at op.Times x (word_value (nat n))

abbrev pub power_of : Option Typed → Option ℕ
power_of None = None
power_of (Some by) = power by.0

-- `x << n` is `x * 2^n` where x is a `uint64_t`; else both are known
abbrev pub shift_value : ℕ → W → Option Typed → Option Typed → Valued
shift_value at x by all = if is_word x.kind then shifted_by at x (power_of by) else number_known at all why.Shift

-- whether `%` of a value by a number of a type is a rest of the number that the value is modulo 2^64
abbrev pub has_rest : W → IntegerType → Bool
has_rest x k = x.whole || is_word (kind_joined x.kind k)

abbrev pub is_power : ℕ → Bool
is_power n = nat_lt 0 n && bit_and n (n - 1) == 0

-- a value `%` a power of two, or a number that is known
abbrev pub rest : ℕ → W → Option Typed → Option Typed → Valued
rest at x None all = Err (at, why.Rest)
rest at x (Some by) all = if is_power by.0 && has_rest x by.1 then Ok (whole (form (codes "&") (x.text ∷ nat (by.0 - 1) ∷ [])) (kind_joined x.kind by.1)) else number_known at all why.Rest

-- two values by a way: the second may be a constant, or both; it may be left out if it is settled
abbrev pub by_way : ℕ → Way → Valued → Valued → Option Typed → Option Typed → Bool → Valued
by_way at (ways.Plain manner basic) one two by all settled = one >>= λ x. two >>= λ y. manner_value at manner basic x y
by_way at (ways.Lazy basic) one two by all settled = one >>= λ x. if settled then (two >>= λ y. lazily at basic x y) else Err (at, why.LeftOut)
by_way at ways.Shift one two by all settled = one >>= λ x. shift_value at x by all
by_way at ways.Rest one two by all settled = one >>= λ x. rest at x by all
by_way at ways.Known one two by all settled = number_known at all why.Quotient

-- one of two values, each of which may be left out if both are settled
abbrev pub choice_of : ℕ → Valued → Valued → Valued → Bool → Valued
choice_of at test one other settled = test >>= λ t. if settled then (one >>= λ x. other >>= λ y. choice_value at t x y y) else Err (at, why.LeftOut)

-- whether a value is the same number as a `uint64_t`
abbrev pub is_counted : W → Bool
is_counted x = x.whole || is_word x.kind

-- `min` or `max` of two numbers of type `uint64_t`
abbrev pub extreme : ℕ → Call → W → W → Valued
extreme at f x y = if is_counted x && is_counted y then Ok (word_value (form (call_word f) (x.text ∷ y.text ∷ []))) else Err (at, why.Signed)

-- what a function says of two values
abbrev pub value_of_call : ℕ → Call → Valued → Valued → Valued
value_of_call at f one two = one >>= λ x. two >>= λ y. extreme at f x y
