-- Numbers of integer types, each kept in 64 bits, as two's complement has it: modulo 2^64.
use Rattle.std.specs.Prelude.{ℕ, ◌+◌, ◌-◌, ◌*◌, ◌/◌, ◌%◌, ◌^◌, ◌==◌, nat_lt, nat_le, Bool, true, false, not, ◌&&◌, if◌then◌else◌, bit_and, bit_or, bit_xor, Option, Some, None}
use Rattle.ot_exec_code.specs.declared.kind.Kind.{Kind}
use Rattle.ot_exec_code.specs.declared.kind.Width.{Width}
use Rattle.ot_exec_code.specs.declared.kind.Width.TheVariants.{Bits8, Bits16, Bits32, Bits64}
use Rattle.ot_exec_code.specs.declared.operation.Operation.{Operation}
use Rattle.ot_exec_code.specs.declared.operation.Operation.TheVariants.{Add, Subtract, Multiply, Divide, Remainder, And, Or, Xor, ShiftLeft, ShiftRight, Less, LessOrEqual, Equal}

abbrev pub bits : Width → ℕ
bits Bits8 = 8
bits Bits16 = 16
bits Bits32 = 32
bits Bits64 = 64

-- how many numbers of so many bits there are, and where those with the sign begin
abbrev pub numbers : Width → ℕ
numbers Bits8 = 2 ^ 8
numbers Bits16 = 2 ^ 16
numbers Bits32 = 2 ^ 32
numbers Bits64 = 2 ^ 64

abbrev pub half : Width → ℕ
half Bits8 = 2 ^ 7
half Bits16 = 2 ^ 15
half Bits32 = 2 ^ 31
half Bits64 = 2 ^ 63

-- the number of this type that has the same low bits
abbrev pub narrow : Kind → ℕ → ℕ
narrow k n =
    let low = n % numbers k.width in
    if k.signed && nat_le (half k.width) low then low + (2 ^ 64 - numbers k.width) else low

-- whether it stands for a number below 0; what stands for its opposite; and its size without the sign
abbrev pub is_negative : Kind → ℕ → Bool
is_negative k n = k.signed && nat_le (2 ^ 63) n

abbrev pub opposite : ℕ → ℕ
opposite n = (2 ^ 64 + 0 - n) % 2 ^ 64

abbrev pub magnitude : Kind → ℕ → ℕ
magnitude k n = if is_negative k n then opposite n else n

-- this size with a sign
abbrev pub with_sign : Bool → ℕ → ℕ
with_sign negative n = if negative then opposite n else n

abbrev pub differ : Bool → Bool → Bool
differ true b = not b
differ false b = b

-- what orders numbers of a type as those for which they stand
abbrev pub rank : Kind → ℕ → ℕ
rank k n = if k.signed then (n + 2 ^ 63) % 2 ^ 64 else n

-- so many bits to the right; the bits that come in are those of the sign
abbrev pub shifted_right : Kind → ℕ → ℕ → ℕ
shifted_right k n by = if is_negative k n then 2 ^ 64 - 1 - ((2 ^ 64 - 1 - n) / 2 ^ by) else n / 2 ^ by

abbrev pub truth : Bool → ℕ
truth b = if b then 1 else 0

-- An operation on numbers of a type. There is none by 0, and none that shifts by as many bits as there are, or more. The quotient is
-- truncated, and the remainder has the sign of the first (ISO C11, section 6.5.5)
abbrev pub operated : Operation → Kind → ℕ → ℕ → Option ℕ
operated Add k a b = Some (narrow k ((a + b) % 2 ^ 64))
operated Subtract k a b = Some (narrow k ((2 ^ 64 + a - b) % 2 ^ 64))
operated Multiply k a b = Some (narrow k ((a * b) % 2 ^ 64))
operated Divide k a b =
    if b == 0 then None else Some (narrow k (with_sign (differ (is_negative k a) (is_negative k b)) (magnitude k a / magnitude k b)))
operated Remainder k a b = if b == 0 then None else Some (narrow k (with_sign (is_negative k a) (magnitude k a % magnitude k b)))
operated And k a b = Some (narrow k (bit_and a b))
operated Or k a b = Some (narrow k (bit_or a b))
operated Xor k a b = Some (narrow k (bit_xor a b))
operated ShiftLeft k a b = if nat_lt b (bits k.width) then Some (narrow k ((a * 2 ^ b) % 2 ^ 64)) else None
operated ShiftRight k a b = if nat_lt b (bits k.width) then Some (narrow k (shifted_right k a b)) else None
operated Less k a b = Some (truth (nat_lt (rank k a) (rank k b)))
operated LessOrEqual k a b = Some (truth (nat_le (rank k a) (rank k b)))
operated Equal k a b = Some (truth (a == b))
