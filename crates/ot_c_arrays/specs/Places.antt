-- Where words stand in the text.
use Rattle.std.specs.Prelude.{ℕ, ◌-◌, List, length, slice_get, unwrap_or}

-- the byte at which begins what so many words are left from
abbrev pub byte_of : List ℕ → ℕ → ℕ
byte_of starts left = unwrap_or (slice_get starts (length starts - left)) 0
