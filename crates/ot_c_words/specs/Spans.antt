-- How far goes what begins here.
use Rattle.std.specs.Prelude.{ℕ, ◌+◌, nat_eq, ◌==◌, Bool, false, not, ◌&&◌, ◌||◌, [], ◌∷◌, drop, take, Option, Some, None, codes, option_map, if◌then◌else◌}
use Rattle.std.specs.List.{prefix_len, starts_with}
use Rattle.ot_c_words.specs.Tables.{Text}
use Rattle.ot_c_words.specs.Names.{in_name, known_of}
use Rattle.ot_c_words.specs.declared.known.Known.{Known}

-- ---- what passes a test, up to the first that doesn't

abbrev pub is_blank : ℕ → Bool
is_blank b = (b == 32) || (b == 9)

-- white space that ends no line
abbrev pub is_white : ℕ → Bool
is_white b = is_blank b || (b == 11) || (b == 12) || (b == 13)

-- a name, or a number with its end
abbrev pub name_len : Text → ℕ
name_len bytes = prefix_len in_name bytes

abbrev pub blank_len : Text → ℕ
blank_len bytes = prefix_len is_blank bytes

-- a line
abbrev pub line_len : Text → ℕ
line_len bytes = prefix_len (λ b. not (b == 10)) bytes

-- ---- what ends in a mark, with the mark, if that comes

abbrev pub one_more : Option ℕ → Option ℕ
one_more n = option_map (λ n. 1 + n) n

-- behind `/*`
abbrev pub comment_len : Text → Option ℕ
comment_len [] = None
comment_len (b ∷ bs) = if starts_with nat_eq (b ∷ bs) (codes "*/") then Some 2 else one_more (comment_len bs)

-- behind a quote, or behind what stands there: a backslash takes its meaning from the next byte
abbrev pub quoted_len : Bool → Text → Option ℕ
quoted_len taken [] = None
quoted_len taken (b ∷ bs) = if b == 10 then None else if (b == 34) && not taken then Some 1 else one_more (quoted_len ((b == 92) && not taken) bs)

-- up to this mark, on one line
abbrev pub closed_len : ℕ → Text → Option ℕ
closed_len mark [] = None
closed_len mark (b ∷ bs) = if b == mark then Some 1 else if b == 10 then None else one_more (closed_len mark bs)

-- ---- a line that goes on behind a backslash

-- whether only white space stands behind the last backslash, also if the line goes on so behind others
abbrev pub spliced_behind : Bool → Text → Bool
spliced_behind spliced [] = spliced
spliced_behind spliced (b ∷ bs) = spliced_behind ((b == 92) || (spliced && is_white b)) bs

-- ---- trigraphs (C17, section 5.2.1.1)

-- one of = / ' ( ) ! < > -
abbrev pub is_third : ℕ → Bool
is_third b = (b == 61) || (b == 47) || (b == 39) || (b == 40) || (b == 41) || (b == 33) || (b == 60) || (b == 62) || (b == 45)

abbrev pub begins_third : Text → Bool
begins_third [] = false
begins_third (b ∷ bs) = is_third b

abbrev pub begins_second : Text → Bool
begins_second [] = false
begins_second (b ∷ bs) = (b == 63) && begins_third bs

-- two question marks and one of these at the front
abbrev pub begins_trigraph : Text → Bool
begins_trigraph [] = false
begins_trigraph (b ∷ bs) = (b == 63) && begins_second bs

abbrev pub has_trigraph : Text → Bool
has_trigraph [] = false
has_trigraph (b ∷ bs) = begins_trigraph (b ∷ bs) || has_trigraph bs

-- ---- a word of a directive, behind blanks

abbrev pub without_blanks : Text → Text
without_blanks bytes = drop (blank_len bytes) bytes

-- which word it is, and how many bytes it has with the blanks
unfoldable pub next_word : Text → Option Known × ℕ
next_word bytes = (known_of (take (name_len (without_blanks bytes)) (without_blanks bytes)), blank_len bytes + name_len (without_blanks bytes))
