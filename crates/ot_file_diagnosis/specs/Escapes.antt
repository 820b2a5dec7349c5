-- Bytes that a format takes for more than themselves, written as `%` and two digits.
use Rattle.std.specs.Prelude.{ℕ, ◌==◌, nat_lt, Bool, ◌||◌, ◌&&◌, List, [], ◌∷◌, flat_map, if◌then◌else◌}
use Rattle.percent_encoding.specs.Percent.{percent_encode_byte}

abbrev pub is_alphanumeric : ℕ → Bool
is_alphanumeric b = (nat_lt 47 b && nat_lt b 58) || (nat_lt 64 b && nat_lt b 91) || (nat_lt 96 b && nat_lt b 123)

-- a byte of a path that stands for itself in a URI: letters, digits, `/`, `.`, `_`, `-` and `~`
abbrev pub is_of_path : ℕ → Bool
is_of_path b = is_alphanumeric b || b == 47 || b == 46 || b == 95 || b == 45 || b == 126

abbrev pub of_uri : ℕ → List ℕ
of_uri b = if is_of_path b then b ∷ [] else percent_encode_byte b

-- the path of a file as a URI
abbrev pub uri_text : List ℕ → List ℕ
uri_text path = flat_map of_uri path

-- in the message of an annotation `%`, CR and LF are escaped
abbrev pub of_message : ℕ → List ℕ
of_message b = if b == 37 || b == 13 || b == 10 then percent_encode_byte b else b ∷ []

abbrev pub message_text : List ℕ → List ℕ
message_text message = flat_map of_message message

-- and in its properties `:` and `,` too
abbrev pub of_property : ℕ → List ℕ
of_property b = if b == 58 || b == 44 then percent_encode_byte b else of_message b

abbrev pub property_text : List ℕ → List ℕ
property_text property = flat_map of_property property
