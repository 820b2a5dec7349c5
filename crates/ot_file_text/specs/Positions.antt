-- Lines and columns of a file.
use Rattle.std.specs.Prelude.{ℕ, ◌+◌, ◌/◌, ◌==◌, List, reverse, take, count_by, take_while, Bool, not, if◌then◌else◌}
use Rattle.ot_file_text.specs.declared.position.Position.{Position}

-- an LF
abbrev pub is_end : ℕ → Bool
is_end b = b == 10

-- in UTF-8 the bytes behind a character's first are those from 128 to 191
abbrev pub begins_character : ℕ → Bool
begins_character b = not (b / 64 == 2)

-- the bytes of the last line, the last one first
abbrev pub last_line : List ℕ → List ℕ
last_line text = take_while (λ b. not (is_end b)) (reverse text)

-- where the byte behind a text stands: one more than the text's ends of lines, and than the characters behind the last of them
abbrev pub position_behind : List ℕ → Position
position_behind text = record { line = count_by is_end text + 1; column = count_by begins_character (last_line text) + 1 }

-- where the byte of a text stands that has so many before it
abbrev pub position_of : List ℕ → ℕ → Position
position_of text offset = position_behind (take offset text)

-- ---- from byte to byte

abbrev pub first_position : Position
first_position = record { line = 1; column = 1 }

-- where a byte leaves the next one
abbrev pub position_after : Position → ℕ → Position
position_after p b =
    if is_end b then record { line = p.line + 1; column = 1 } else (if begins_character b then record { line = p.line; column = p.column + 1 } else p)
