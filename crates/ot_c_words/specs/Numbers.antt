-- Numbers (C17, section 6.4.4.1), where `long` has 64 bits, as `long long` has.
use Rattle.std.specs.Prelude.{ℕ, ◌+◌, ◌-◌, ◌*◌, nat_lt, nat_le, ◌==◌, Bool, ◌&&◌, ◌||◌, List, [], ◌∷◌, drop, take, Option, Some, None, Result, Ok, Err, codes, if◌then◌else◌}
use Rattle.std.specs.List.{prefix_len}
use Rattle.ot_c_words.specs.Tables.{Text, looked_up}
use Rattle.ot_c_words.specs.Names.{is_digit}
use Rattle.ot_c_words.specs.declared.fault.Wrong.{Wrong}
use Rattle.ot_c_words.specs.declared.fault.Wrong.TheVariants.{NoNumber, TooLarge}
use Rattle.ot_c_words.specs.declared.number.Base.{Base}
use Rattle.ot_c_words.specs.declared.number.Base.TheVariants as b
use Rattle.ot_c_words.specs.declared.number.Suffix.{Suffix}
use Rattle.ot_c_words.specs.declared.number.Suffix.TheVariants as s
use Rattle.ot_c_words.specs.declared.word.IntegerType.{IntegerType}
use Rattle.ot_c_words.specs.declared.word.IntegerType.TheVariants as t

-- ---- digits

abbrev pub base_of : Base → ℕ
base_of b.Decimal = 10
base_of b.Hexadecimal = 16

-- what a digit stands for; 16 is what no digit stands for
abbrev pub figure : ℕ → ℕ
figure d = if is_digit d then d - 48 else if nat_le 97 d && nat_le d 102 then d - 87 else if nat_le 65 d && nat_le d 70 then d - 55 else 16

abbrev pub is_figure : Base → ℕ → Bool
is_figure base d = nat_lt (figure d) (base_of base)

-- how many digits stand at the front
abbrev pub figures_len : Base → Text → ℕ
figures_len base text = prefix_len (is_figure base) text

-- the number that digits write behind those of n
abbrev pub value_behind : Base → ℕ → Text → ℕ
value_behind base n [] = n
value_behind base n (d ∷ ds) = value_behind base (n * base_of base + figure d) ds

-- the number that digits write, where it has 64 bits
unfoldable pub value_of : Base → Text → Option ℕ
value_of base text = if nat_lt (value_behind base 0 text) 18446744073709551616 then Some (value_behind base 0 text) else None

-- ---- types

abbrev pub suffixes : List (Text × Suffix)
suffixes =
    ([], s.Plain) ∷ (codes "u", s.Unsigned) ∷ (codes "U", s.Unsigned) ∷ (codes "l", s.Long) ∷ (codes "L", s.Long) ∷ (codes "ll", s.Long) ∷ (codes "LL", s.Long) ∷
    (codes "ul", s.UnsignedLong) ∷ (codes "UL", s.UnsignedLong) ∷ (codes "lu", s.UnsignedLong) ∷ (codes "LU", s.UnsignedLong) ∷
    (codes "ull", s.UnsignedLong) ∷ (codes "ULL", s.UnsignedLong) ∷ (codes "llu", s.UnsignedLong) ∷ (codes "LLU", s.UnsignedLong) ∷ []

unfoldable pub suffix_of : Text → Option Suffix
suffix_of text = looked_up suffixes text

-- a number in decimal is of a signed type, where its end doesn't say otherwise
abbrev pub signed_type : Base → ℕ → Option IntegerType
signed_type b.Decimal n = if nat_lt n 9223372036854775808 then Some t.Long else None
signed_type b.Hexadecimal n = if nat_lt n 9223372036854775808 then Some t.Long else Some t.UnsignedLong

abbrev pub plain_type : Base → ℕ → Option IntegerType
plain_type b.Decimal n = if nat_lt n 2147483648 then Some t.Int else signed_type b.Decimal n
plain_type b.Hexadecimal n = if nat_lt n 2147483648 then Some t.Int else if nat_lt n 4294967296 then Some t.Unsigned else signed_type b.Hexadecimal n

-- the first type that holds the number, of those that its base and its end leave
unfoldable pub type_of : Base → Suffix → ℕ → Option IntegerType
type_of base s.Plain n = plain_type base n
type_of base s.Unsigned n = if nat_lt n 4294967296 then Some t.Unsigned else Some t.UnsignedLong
type_of base s.Long n = signed_type base n
type_of base s.UnsignedLong n = Some t.UnsignedLong

-- ---- numbers whole

abbrev pub Numbered : Type 0
Numbered = Result (ℕ × IntegerType) Wrong

abbrev pub of_type : ℕ → Option IntegerType → Numbered
of_type n (Some t) = Ok (n, t)
of_type n None = Err TooLarge

abbrev pub of_value : Base → Suffix → Option ℕ → Numbered
of_value base suffix (Some n) = of_type n (type_of base suffix n)
of_value base suffix None = Err TooLarge

abbrev pub with_suffix : Base → Text → Option Suffix → Numbered
with_suffix base digits (Some suffix) = of_value base suffix (value_of base digits)
with_suffix base digits None = Err NoNumber

-- one digit or more, and an end that says of which type it is
unfoldable pub in_base : Base → Text → Numbered
in_base base text = if figures_len base text == 0 then Err NoNumber else with_suffix base (take (figures_len base text) text) (suffix_of (drop (figures_len base text) text))

-- the number that a text is; one that begins with a zero and a digit is octal, which isn't read
unfoldable pub number_of : Text → Numbered
number_of [] = in_base b.Decimal []
number_of (c ∷ []) = in_base b.Decimal (c ∷ [])
number_of (c ∷ d ∷ ds) = if (c == 48) && ((d == 120) || (d == 88)) then in_base b.Hexadecimal ds else if (c == 48) && is_digit d then Err NoNumber else in_base b.Decimal (c ∷ d ∷ ds)
