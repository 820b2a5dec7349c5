-- What a line does to a book.
use Rattle.std.specs.Prelude.{◌≡◌, ℕ, List, Bool, true, false}
use Rattle.ot_book.specs.Books.{Register, line_logged, IsFullFor}
use Rattle.ot_session.specs.Session.{RunsProgram}

-- the line is logged, or the book has no room for it
abbrev pub LogsLine : Register → List ℕ → Bool → Register → Type 0
LogsLine old line true new = (¬ (IsFullFor old line)) × (lost : Bool) × (new ≡ line_logged old line lost)
LogsLine old line false new = IsFullFor old line × (new ≡ old)

-- it would run a program
pub record WouldRun (old : Register) (line : List ℕ) : Type 0 where
  pub room : ¬ (IsFullFor old line)
  pub runs : RunsProgram old line
