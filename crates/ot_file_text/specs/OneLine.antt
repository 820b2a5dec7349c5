-- A piece of a file as one line: its bytes without the white space outside of strings. Its comments are white space already.
use Rattle.std.specs.Prelude.{ℕ, List, [], ◌∷◌, ◌++◌, ◌==◌, ◌||◌, ◌&&◌, Bool, false, not, if◌then◌else◌}
use Rattle.ot_file_text.specs.Places.{is_blank, is_opening, is_closing, place_after}
use Rattle.ot_file_text.specs.declared.place.Place.{Place}
use Rattle.ot_file_text.specs.declared.place.Place.TheVariants.{Outside, Quoted, Escaped}

-- a byte outside of strings belongs to a word, as numbers and `true` are: it is no white space, bracket, comma, colon or quote
abbrev pub is_of_word : ℕ → Bool
is_of_word b = not (is_blank b || is_opening b || is_closing b || b == 44 || b == 58 || b == 34)

abbrev pub begins_word : List ℕ → Bool
begins_word [] = false
begins_word (b ∷ behind) = is_of_word b

-- whether the last byte that was no white space belongs to a word outside of strings
abbrev pub word_after : Place → Bool → ℕ → Bool
word_after Outside word b = if is_blank b then word else is_of_word b
word_after Quoted word b = false
word_after Escaped word b = false

-- of the white space between two words, which would else be one, the last byte stays, as a space
abbrev pub of_blank : Bool → List ℕ → List ℕ
of_blank word behind = if word && begins_word behind then 32 ∷ [] else []

-- an LF in a string, which is no JSON, is a tab there, which is none either
abbrev pub in_string : ℕ → ℕ
in_string b = if b == 10 then 9 else b

-- what stands on the line of a byte, by the bytes behind it
abbrev pub on_line : Place → Bool → ℕ → List ℕ → List ℕ
on_line Outside word b behind = if is_blank b then of_blank word behind else b ∷ []
on_line Quoted word b behind = in_string b ∷ []
on_line Escaped word b behind = in_string b ∷ []

abbrev pub line_in : Place → Bool → List ℕ → List ℕ
line_in place word [] = []
line_in place word (b ∷ behind) = on_line place word b behind ++ line_in (place_after place b) (word_after place word b) behind

abbrev pub one_line : List ℕ → List ℕ
one_line piece = line_in Outside false piece
