-- Types of numbers, where `long` has 64 bits (C17, section 6.3.1.8).
use Rattle.std.specs.Prelude.{ℕ, ◌^◌, nat_lt, nat_le, Bool, true, false, not, ◌&&◌, ◌||◌, if◌then◌else◌}
use Rattle.ot_c_words.specs.declared.word.IntegerType.{IntegerType}
use Rattle.ot_c_words.specs.declared.word.IntegerType.TheVariants.{Int, Unsigned, Long, UnsignedLong}

abbrev pub rank : IntegerType → ℕ
rank Int = 0
rank Unsigned = 1
rank Long = 2
rank UnsignedLong = 3

-- the type in which two numbers meet
abbrev pub kind_joined : IntegerType → IntegerType → IntegerType
kind_joined a b = if nat_lt (rank a) (rank b) then b else a

-- whether a type holds a number from 0 to 2^64 - 1
abbrev pub holds : IntegerType → ℕ → Bool
holds Int n = nat_lt n (2 ^ 31)
holds Unsigned n = nat_lt n (2 ^ 32)
holds Long n = nat_lt n (2 ^ 63)
holds UnsignedLong n = true

-- `uint64_t`, whose numbers are those of the language
abbrev pub is_word : IntegerType → Bool
is_word UnsignedLong = true
is_word Int = false
is_word Unsigned = false
is_word Long = false

-- `unsigned`, whose numbers wrap otherwise
abbrev pub is_narrow : IntegerType → Bool
is_narrow Unsigned = true
is_narrow Int = false
is_narrow Long = false
is_narrow UnsignedLong = false

-- whether a type has negative numbers
abbrev pub is_signed : IntegerType → Bool
is_signed Int = true
is_signed Long = true
is_signed Unsigned = false
is_signed UnsignedLong = false

-- whether a type holds -n
abbrev pub holds_below : IntegerType → ℕ → Bool
holds_below Int n = nat_le n (2 ^ 31)
holds_below Long n = nat_le n (2 ^ 63)
holds_below Unsigned n = false
holds_below UnsignedLong n = false

abbrev pub is_int : IntegerType → Bool
is_int Int = true
is_int Unsigned = false
is_int Long = false
is_int UnsignedLong = false

-- Whether a number of type k, which isn't negative where w says so, is the same modulo 2^64 where it is converted to another
-- type: that holds it, or its numbers are all those modulo 2^64 (C17, section 6.3.1.3).
abbrev pub keeps : IntegerType → IntegerType → Bool → Bool
keeps UnsignedLong k w = true
keeps Long k w = not (is_word k)
keeps Int k w = is_int k
keeps Unsigned k w = is_narrow k || is_int k && w

-- how many bits a type has
abbrev pub width : IntegerType → ℕ
width Int = 32
width Unsigned = 32
width Long = 64
width UnsignedLong = 64
