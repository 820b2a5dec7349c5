-- The line of a text in which a byte stands, with a caret under the byte.
use Rattle.std.specs.Prelude.{ℕ, ◌+◌, ◌-◌, ◌==◌, nat_lt, min, max, Bool, ◌||◌, ◌&&◌, List, [], ◌∷◌, ◌++◌, length, take, drop, flat_map, replicate, codes, if◌then◌else◌}
use Rattle.std.specs.Fmt.{decimal}
use Rattle.std.specs.List.{after_last, before_first}
use Rattle.ot_file_text.specs.Positions.{is_end, begins_character}
use Rattle.ot_file_diagnosis.specs.declared.diagnosis.Place.{Place}
use Rattle.ot_file_diagnosis.specs.declared.paint.Paint.{Paint}
use Rattle.ot_file_diagnosis.specs.declared.paint.Paint.TheVariants.{Plain, Coloured}

-- ---- which bytes are shown

-- an LF, or a CR, which some have before it
abbrev pub ends_line : ℕ → Bool
ends_line b = b == 10 || b == 13

-- what stands on the line of a byte before it, and from it on
abbrev pub line_before : List ℕ → ℕ → List ℕ
line_before text byte = after_last is_end (take byte text)

abbrev pub line_behind : List ℕ → ℕ → List ℕ
line_behind text byte = before_first ends_line (drop byte text)

-- how many bytes are shown of so many, where so many stand on the other side of the place: all of a line of up to 120 bytes, and of a
-- longer one 60 on each side
abbrev pub shown_count : ℕ → ℕ → ℕ
shown_count count other = if nat_lt 120 (count + other) then min count 60 else count

abbrev pub last_of : ℕ → List ℕ → List ℕ
last_of count bytes = drop (length bytes - count) bytes

abbrev pub shown_before : List ℕ → ℕ → List ℕ
shown_before text byte = last_of (shown_count (length (line_before text byte)) (length (line_behind text byte))) (line_before text byte)

abbrev pub shown_behind : List ℕ → ℕ → List ℕ
shown_behind text byte = take (shown_count (length (line_behind text byte)) (length (line_before text byte))) (line_behind text byte)

-- ---- how they are shown

-- a byte of printable ASCII, or a tab, as it is; `?` for each other character
abbrev pub shown_of : ℕ → List ℕ
shown_of b = if b == 9 || (nat_lt 31 b && nat_lt b 127) then b ∷ [] else (if begins_character b then codes "?" else [])

-- a column for each character, a tab for a tab
abbrev pub lead_of : ℕ → List ℕ
lead_of b = if b == 9 then b ∷ [] else (if begins_character b then codes " " else [])

-- words in a colour of a terminal, where there are colours
abbrev pub in_colour : Paint → List ℕ → List ℕ → List ℕ
in_colour Plain colour words = words
in_colour Coloured colour words = 27 ∷ (codes "[" ++ (colour ++ (codes "m" ++ (words ++ 27 ∷ codes "[0m"))))

abbrev pub caret : Paint → List ℕ
caret paint = in_colour paint (codes "1;32") (codes "^") ++ codes "\n"

-- `   13 |     m[5] = m[4];`
abbrev pub source_line : List ℕ → List ℕ → List ℕ → List ℕ
source_line number before behind =
    replicate (5 - length number) 32 ++ (number ++ (codes " | " ++ (flat_map shown_of before ++ (flat_map shown_of behind ++ codes "\n"))))

-- `      |     ^`
abbrev pub caret_line : Paint → ℕ → List ℕ → List ℕ
caret_line paint digits before = replicate (max digits 5) 32 ++ (codes " | " ++ (flat_map lead_of before ++ caret paint))

abbrev pub picture_text : Paint → List ℕ → Place → List ℕ
picture_text paint text p =
    source_line (decimal p.position.line) (shown_before text p.byte) (shown_behind text p.byte)
    ++ caret_line paint (length (decimal p.position.line)) (shown_before text p.byte)
