-- What room a log has for lines that come one after another.
use Rattle.std.specs.Prelude.{ℕ, ◌+◌, ◌≡◌, List, [], ◌∷◌, length, nat_le, Bool, true, false, if◌then◌else◌, None, ◌↔◌}
use Rattle.ot_store.specs.declared.limits.Limits.{Limits}
use Rattle.ot_book.specs.Answers.{is_checkpoint}
use Rattle.ot_book.specs.Books.{Register, next_number, max_number, line_logged, IsFullFor}

-- the limit of the log, how many entries it has, and the number of the next request
pub record Room : Type 0 where
  pub limit : ℕ
  pub entries : ℕ
  pub next : ℕ

abbrev pub room_in : Register → Room
room_in b = record { limit = b.limits.log; entries = length b.log; next = next_number b }

-- before the first request
abbrev pub empty_room : Limits → Room
empty_room limits = record { limit = limits.log; entries = 0; next = 1 }

-- The line is taken: its number is allowed, and where the log is at its limit the line is a checkpoint.
abbrev pub takes : Room → List ℕ → Bool
takes r line = if nat_le r.next max_number then (if nat_le r.limit r.entries then is_checkpoint line else true) else false

-- after the line: a checkpoint begins the log anew
abbrev pub with_entry : Room → List ℕ → Room
with_entry r line = record r { entries = if is_checkpoint line then 1 else r.entries + 1; next = r.next + 1 }

-- after lines, one after another
abbrev pub room_after : Room → List (List ℕ) → Room
room_after r [] = r
room_after r (line ∷ lines) = room_after (with_entry r line) lines

-- each of the lines is taken
abbrev pub TakesAll : Room → List (List ℕ) → Type 0
TakesAll r [] = Unit {0}
TakesAll r (line ∷ lines) = (takes r line ≡ true) × TakesAll (with_entry r line) lines

-- The room of a book after a line is that of the book before it with the line counted, whatever was told.
abbrev pub RoomGoesOn : Type 0
RoomGoesOn = (b : Register) (line : List ℕ) (memory : Bool) → room_in (line_logged b line memory) ≡ with_entry (room_in b) line

-- A book without an open request takes a line exactly where it isn't full for it.
abbrev pub TakesWhereFree : Type 0
TakesWhereFree = (b : Register) (line : List ℕ) → b.pending ≡ None → (takes (room_in b) line ≡ true) ↔ (¬ (IsFullFor b line))
