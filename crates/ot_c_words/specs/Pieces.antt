-- What stands at the front of a text: white space, the end of a line, or a word.
use Rattle.std.specs.Prelude.{ℕ, ◌+◌, ◌<◌, ◌≤◌, IfOk, nat_eq, nat_lt, ◌==◌, Bool, true, false, not, ◌&&◌, ◌||◌, [], ◌∷◌, drop, take, Option, Some, None, Result, Ok, Err, codes, if◌then◌else◌}
use Rattle.std.specs.List.{starts_with}
use Rattle.std.specs.Str.{IsAscii}
use Rattle.ot_c_words.specs.Tables.{Text}
use Rattle.ot_c_words.specs.Names.{is_digit, is_letter}
use Rattle.ot_c_words.specs.Marks.{mark_at}
use Rattle.ot_c_words.specs.Numbers.{Numbered, number_of}
use Rattle.ot_c_words.specs.Spans.{is_white, name_len, blank_len, line_len, comment_len, quoted_len, closed_len, spliced_behind, begins_trigraph, has_trigraph, next_word}
use Rattle.ot_c_words.specs.declared.fault.Wrong.{Wrong}
use Rattle.ot_c_words.specs.declared.fault.Wrong.TheVariants as wrong
use Rattle.ot_c_words.specs.declared.known.Known.{Known}
use Rattle.ot_c_words.specs.declared.known.Known.TheVariants as k
use Rattle.ot_c_words.specs.declared.mark.Mark.{Mark}
use Rattle.ot_c_words.specs.declared.piece.Line.{Line}
use Rattle.ot_c_words.specs.declared.piece.Line.TheVariants as line
use Rattle.ot_c_words.specs.declared.piece.Piece.{Piece}
use Rattle.ot_c_words.specs.declared.piece.Piece.TheVariants as p

-- a piece, and how many bytes it has
abbrev pub Found : Type 0
Found = Result (Piece × ℕ) Wrong

-- no name
abbrev pub IsOther : Piece → Type 0
IsOther p.Name = ⊥
IsOther _ = Unit {0}

-- a piece has bytes, no more than these, and is no name
abbrev pub Advances : ℕ → Found → Type 0
Advances most found = IfOk found (λ x. (0 < x.1) × (x.1 ≤ most) × IsOther x.0)

abbrev pub AsciiIfName : Piece → Text → Type 0
AsciiIfName p.Name text = IsAscii text
AsciiIfName _ text = Unit {0}

-- ---- white space, and lines that go on

-- white space with a backslash and the end of the line behind it goes on there
unfoldable pub white_len : Text → ℕ
white_len bytes = if starts_with nat_eq bytes (codes "\\\n") then 3 else 1

-- the byte behind the end of a line that a backslash has before it ends no word
abbrev pub splits : Text → Bool
splits [] = true
splits (b ∷ bs) = is_white b || (b == 10)

-- behind a backslash: the line goes on, if that splits no word
unfoldable pub splice_at : Text → Found
splice_at [] = Err wrong.NoWord
splice_at (b ∷ bs) = if (b == 10) && splits bs then Ok (p.Nothing, 2) else Err wrong.NoWord

-- ---- words

abbrev pub mark_found : Option (Mark × ℕ) → Found
mark_found None = Err wrong.NoWord
mark_found (Some m) = Ok (p.Mark m.0, m.1)

abbrev pub number_found : ℕ → Numbered → Found
number_found len (Err e) = Err e
number_found len (Ok n) = Ok (p.Number n.0 n.1, len)

unfoldable pub numeral_at : Text → Found
numeral_at bytes = number_found (name_len bytes) (number_of (take (name_len bytes) bytes))

-- what has these bytes, unless a trigraph is among them
abbrev pub without_trigraph : Text → Found → Found
without_trigraph bytes found = if has_trigraph bytes then Err wrong.Trigraph else found

-- what ends among these bytes, with so many before it, or else is open
abbrev pub piece_ended : Piece → ℕ → Wrong → Text → Option ℕ → Found
piece_ended piece len otherwise bytes None = Err otherwise
piece_ended piece len otherwise bytes (Some n) = without_trigraph (take n bytes) (Ok (piece, len + n))

-- behind two strokes
unfoldable pub line_at : Text → Found
line_at bytes = if spliced_behind false (take (line_len bytes) bytes) then Err wrong.SplicedComment else without_trigraph (take (line_len bytes) bytes) (Ok (p.Nothing, 2 + line_len bytes))

-- behind a stroke: a comment, or a mark
unfoldable pub stroke_at : Text → Text → Found
stroke_at bytes [] = mark_found (mark_at bytes)
stroke_at bytes (b ∷ bs) = if b == 47 then line_at bs else if b == 42 then piece_ended p.Nothing 2 wrong.OpenComment bs (comment_len bs) else mark_found (mark_at bytes)

-- behind a single quote: a byte that means itself, and another quote
unfoldable pub letter_at : Text → Found
letter_at [] = Err wrong.NoWord
letter_at (b ∷ []) = Err wrong.NoWord
letter_at (b ∷ c ∷ bs) = if (c == 39) && not (b == 39) && not (b == 92) && not (b == 10) && nat_lt b 128 then Ok (p.Letter b, 3) else Err wrong.NoWord

-- ---- directives

-- behind `#include` and blanks: a header
unfoldable pub header_at : ℕ → Text → Found
header_at len [] = Err wrong.OtherDirective
header_at len (b ∷ bs) = if b == 60 then piece_ended p.Include (len + 1) wrong.OtherDirective bs (closed_len 62 bs) else if b == 34 then piece_ended p.Include (len + 1) wrong.OtherDirective bs (closed_len 34 bs) else Err wrong.OtherDirective

-- behind `#pragma`: OpenMP's
unfoldable pub omp_at : ℕ → Option Known × ℕ → Found
omp_at len (Some k.Omp, n) = Ok (p.Pragma, len + n)
omp_at len _ = Err wrong.OtherDirective

-- by its word, with so many bytes up to these
unfoldable pub directive_by : Option Known → ℕ → Text → Found
directive_by (Some k.Define) len bytes = Ok (p.Define, len)
directive_by (Some k.Include) len bytes = header_at (len + blank_len bytes) (drop (blank_len bytes) bytes)
directive_by (Some k.Pragma) len bytes = omp_at len (next_word bytes)
directive_by _ len bytes = Err wrong.OtherDirective

abbrev pub is_fresh : Line → Bool
is_fresh line.Fresh = true
is_fresh line.Inside = false
is_fresh line.Directive = false

-- behind `#`, where only white space stands before it on its line
unfoldable pub directive_at : Line → Text → Found
directive_at on bytes = if is_fresh on then directive_by (next_word bytes).0 (1 + (next_word bytes).1) (drop (next_word bytes).1 bytes) else Err wrong.NoWord

-- ---- by the first byte

unfoldable pub front : Line → Text → Found
front on [] = Err wrong.NoWord
front on (b ∷ bs) =
    if b == 10 then Ok (p.Feed, 1)
    else if is_white b then Ok (p.Nothing, white_len bs)
    else if b == 92 then splice_at bs
    else if b == 47 then stroke_at (b ∷ bs) bs
    else if b == 35 then directive_at on bs
    else if b == 34 then piece_ended p.Text 1 wrong.OpenText bs (quoted_len false bs)
    else if b == 39 then letter_at bs
    else if is_letter b then Ok (p.Name, name_len (b ∷ bs))
    else if is_digit b then numeral_at (b ∷ bs)
    else if begins_trigraph (b ∷ bs) then Err wrong.Trigraph
    else mark_found (mark_at (b ∷ bs))
