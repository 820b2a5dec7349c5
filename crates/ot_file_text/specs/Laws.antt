-- What stays of a file without its comments, and of a piece on one line.
use Rattle.std.specs.Prelude.{◌≡◌, ◌≤◌, ◌⊎◌, ◌==◌, ℕ, List, length, slice_index, false}
use Rattle.std.specs.List.{AllByRecursion}
use Rattle.ot_file_text.specs.Places.{is_blank}
use Rattle.ot_file_text.specs.Comments.{comments_blanked}
use Rattle.ot_file_text.specs.OneLine.{one_line}

abbrev pub BlankedKeepsItsLength : Type 0
BlankedKeepsItsLength = (text : List ℕ) → length (comments_blanked text) ≡ length text

abbrev pub BlankedShowsSpaces : Type 0
BlankedShowsSpaces = (text : List ℕ) (i : ℕ) → (slice_index (comments_blanked text) i ≡ slice_index text i) ⊎ (slice_index (comments_blanked text) i ≡ 32)

-- none of the bytes is a slash
abbrev pub HasNoSlash : List ℕ → Type 0
HasNoSlash text = AllByRecursion (λ b. (b == 47) ≡ false) text

abbrev pub BlankedWithoutSlashes : Type 0
BlankedWithoutSlashes = (text : List ℕ) → HasNoSlash text → comments_blanked text ≡ text

-- none of them is an LF
abbrev pub HasNoEnd : List ℕ → Type 0
HasNoEnd text = AllByRecursion (λ b. (b == 10) ≡ false) text

abbrev pub LineHasNoEnd : Type 0
LineHasNoEnd = (piece : List ℕ) → HasNoEnd (one_line piece)

abbrev pub LineIsNoLonger : Type 0
LineIsNoLonger = (piece : List ℕ) → length (one_line piece) ≤ length piece

-- none of them is white space
abbrev pub HasNoBlank : List ℕ → Type 0
HasNoBlank text = AllByRecursion (λ b. is_blank b ≡ false) text

abbrev pub LineWithoutBlanks : Type 0
LineWithoutBlanks = (piece : List ℕ) → HasNoBlank piece → one_line piece ≡ piece
