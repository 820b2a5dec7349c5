-- Operations on values, of which some aren't known.
use Rattle.std.specs.Prelude.{ℕ, ◌+◌, ◌-◌, ◌*◌, ◌%◌, ◌^◌, ◌==◌, Bool, true, false, not, ◌&&◌, ◌||◌, if◌then◌else◌, Option, Some, None, Result, Ok, Err}
use Rattle.ot_exec_code.specs.Numbers.{narrow, operated, truth}
use Rattle.ot_exec_code.specs.declared.kind.Kind.{Kind}
use Rattle.ot_exec_code.specs.declared.kind.Width.{Width}
use Rattle.ot_exec_code.specs.declared.kind.Width.TheVariants.{Bits64}
use Rattle.ot_exec_code.specs.declared.operation.Operation.{Operation}
use Rattle.ot_exec_code.specs.declared.operation.Operation.TheVariants as ops
use Rattle.ot_exec_state.specs.declared.fault.Reason.{Reason}
use Rattle.ot_exec_state.specs.declared.fault.Reason.TheVariants.{DivideByZero}
use Rattle.ot_exec_state.specs.declared.value.Value.{Value}
use Rattle.ot_exec_state.specs.declared.value.Value.TheVariants.{Number, Pointer, Within, Function, Unknown}

abbrev pub is_unknown : Value → Bool
is_unknown Unknown = true
is_unknown _ = false

-- the number that it is, or else this is the reason
abbrev pub number_or : Reason → Value → Result ℕ Reason
number_or r (Number n) = Ok n
number_or r _ = Err r

-- whether a condition is so; of a value that isn't known the answer says it
abbrev pub is_so : Value → Bool → Bool
is_so (Number n) answer = not (n == 0)
is_so Unknown answer = answer
is_so (Pointer o k) answer = true
is_so (Within o f n) answer = true
is_so (Function f) answer = true

-- the type of a pointer's index
abbrev pub index_kind : Kind
index_kind = record { width = Bits64; signed = true }

abbrev pub is_zero : Value → Bool
is_zero (Number n) = n == 0
is_zero _ = false

-- what isn't null
abbrev pub is_somewhere : Value → Bool
is_somewhere (Pointer o k) = true
is_somewhere (Within o f n) = true
is_somewhere (Function f) = true
is_somewhere _ = false

-- what a 0 makes 0, whatever the other is
abbrev pub vanishes : Operation → Bool
vanishes ops.Multiply = true
vanishes ops.And = true
vanishes _ = false

-- a result of arithmetic, where there is none
abbrev pub no_result : Operation → Result Value Reason
no_result ops.Divide = Err DivideByZero
no_result ops.Remainder = Err DivideByZero
no_result _ = Ok Unknown

abbrev pub of_numbers : Operation → Option ℕ → Result Value Reason
of_numbers op (Some n) = Ok (Number n)
of_numbers op None = no_result op

abbrev pub value_known : Option ℕ → Value
value_known (Some n) = Number n
value_known None = Unknown

-- two places, of one object or not, at these indexes
unfoldable pub compared_places : Operation → Bool → ℕ → ℕ → Value
compared_places ops.Equal same k l = Number (truth (same && k == l))
compared_places ops.Less true k l = value_known (operated ops.Less index_kind k l)
compared_places ops.LessOrEqual true k l = value_known (operated ops.LessOrEqual index_kind k l)
compared_places _ same k l = Unknown

abbrev pub is_equality : Operation → Bool
is_equality ops.Equal = true
is_equality _ = false

-- whether one of two is null and the other isn't
abbrev pub one_is_null : Value → Value → Bool
one_is_null a b = is_zero a && is_somewhere b || is_zero b && is_somewhere a

unfoldable pub values_compared : Operation → Value → Value → Value
values_compared op (Pointer o k) (Pointer p l) = compared_places op (o == p) k l
values_compared op (Function f) (Function g) = if is_equality op then Number (truth (f == g)) else Unknown
values_compared op a b = if is_equality op && one_is_null a b then Number 0 else Unknown

unfoldable pub values_combined : Operation → Kind → Value → Value → Result Value Reason
values_combined op kind (Number a) (Number b) = of_numbers op (operated op kind a b)
values_combined op kind a b = if vanishes op && (is_zero a || is_zero b) then Ok (Number 0) else Ok (values_compared op a b)

-- a conversion of a pointer keeps it where it fits
abbrev pub fits_pointer : Width → Bool
fits_pointer Bits64 = true
fits_pointer _ = false

unfoldable pub value_converted : Kind → Value → Value
value_converted kind (Number n) = Number (narrow kind n)
value_converted kind a = if fits_pointer kind.width then a else Unknown

-- so many elements of this many cells from there, where an array of so many cells begins; 0 where it isn't known how many
unfoldable pub place_advanced : Value → Value → (stride cells : ℕ) → Value
place_advanced (Pointer o k) (Number n) stride cells = Pointer o ((k + (n * stride) % 2 ^ 64) % 2 ^ 64)
place_advanced (Pointer o k) n stride cells = Within o k cells
place_advanced (Within o f m) n stride cells = Within o f m
place_advanced (Number p) (Number n) stride cells = if p == 0 && n == 0 then Number 0 else Unknown
place_advanced place n stride cells = Unknown

-- and how many lie between
unfoldable pub distance : Value → Value → ℕ → Value
distance (Pointer o k) (Pointer p l) stride = if o == p then value_known (operated ops.Divide index_kind ((2 ^ 64 + k - l) % 2 ^ 64) stride) else Unknown
distance a b stride = Unknown
