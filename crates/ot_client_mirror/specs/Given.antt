-- A book that was given one line.
use Rattle.std.specs.Prelude.{◌≡◌, [], ℕ, List, Bool, Option, Some, ◌⊎◌, true, false, None}
use Rattle.ot_store.specs.Arrays.{Named}
use Rattle.ot_store.specs.Refusals.{usual_limits}
use Rattle.ot_book.specs.Answers.{Told, is_lost, is_run}
use Rattle.ot_book.specs.Books.{Register, line_logged, new_register, next_step, last_told}

-- a book that begins with these arrays
abbrev pub book_begun : List Named → Register
book_begun arrays = new_register [] usual_limits arrays

-- it has answered the line, or it would have run a program, and that was given up
abbrev pub Given : List Named → List ℕ → Register → Type 0
Given arrays line book =
    ((memory : Bool) × (book ≡ line_logged (book_begun arrays) line memory)) ⊎ ((is_run (next_step (book_begun arrays) line) ≡ true) × (book ≡ book_begun arrays))

abbrev pub is_lost_in : Option Told → Bool
is_lost_in None = false
is_lost_in (Some told) = is_lost told

-- memory ran out for it
abbrev pub ran_out : Register → Bool
ran_out book = is_lost_in (last_told book)
