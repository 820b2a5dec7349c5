-- The line that ends a session.
use Rattle.std.specs.Prelude.{ℕ, ◌==◌, ◌||◌, List, [], ◌∷◌, reverse, codes, bytes_eq, Bool, if◌then◌else◌}

-- the white space of JSON that a line can have: space, tab, CR
abbrev pub is_blank : ℕ → Bool
is_blank b = b == 32 || b == 9 || b == 13

abbrev pub without_front_blanks : List ℕ → List ℕ
without_front_blanks [] = []
without_front_blanks (b ∷ bs) = if is_blank b then without_front_blanks bs else b ∷ bs

-- with no white space at either end
abbrev pub line_trimmed : List ℕ → List ℕ
line_trimmed line = reverse (without_front_blanks (reverse (without_front_blanks line)))

abbrev pub is_bye : List ℕ → Bool
is_bye line = bytes_eq (line_trimmed line) (codes "[\"bye\"]")
