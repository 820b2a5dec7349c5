-- What becomes of books between a rack and a connection.
use Rattle.std.specs.Prelude.{◌≡◌, [], ◌⊎◌, ℕ, List, ◌∷◌, ◌++◌, Option, Some, None, Result, Ok, Err}
use Rattle.ot_book.specs.Books.{Register}
use Rattle.ot_session.specs.declared.fault.End.{End}
use Rattle.ot_session.specs.declared.fault.FrontFault.{FrontFault}
use Rattle.ot_front.specs.Greetings.{Connects, GoesOn}

-- the books that were taken from a rack, and those that were laid back, one after another
pub record Moves : Type 0 where
  pub taken : List Register
  pub laid : List Register

-- one book more is taken
abbrev pub with_taken : Register → Option Moves → Option Moves
with_taken book None = None
with_taken book (Some m) = Some (record m { taken = m.taken ++ book ∷ [] })

-- one book more is laid back
abbrev pub with_laid : Register → Option Moves → Option Moves
with_laid book None = None
with_laid book (Some m) = Some (record m { laid = m.laid ++ book ∷ [] })

-- A greeting that gives a book has taken it, and no other. One that fails has laid back as it was what it took, if anything.
abbrev pub Hands : Option Moves → Option Moves → Result (Option Register) FrontFault → Type 0
Hands before after (Ok (Some book)) = after ≡ with_taken book before
Hands before after (Ok None) = after ≡ before
Hands before after (Err fault) = (after ≡ before) ⊎ ((book : Register) × (after ≡ with_laid book (with_taken book before)))

-- A connection that was given a book has laid it back as its session left it.
abbrev pub ComesBack : (given : Result (Option Register) FrontFault) (ahead left start held : Option (List ℕ)) (result : Option (Result End FrontFault)) → GoesOn given ahead left start held result → Option Moves → Option Moves → Type 0
ComesBack (Ok (Some book)) ahead left start held (Some result) session before after = after ≡ with_laid session.after (with_taken book before)
ComesBack (Ok (Some book)) ahead left start held None never before after = ⊥
ComesBack (Ok None) ahead left start held result nothing before after = after ≡ before
ComesBack (Err fault) ahead left start held result nothing before after = Hands before after (Err fault)

-- a connection, and what becomes of the book that it is given
pub record ConnectsOver (names : List (List ℕ)) (ahead left start held : Option (List ℕ)) (result : Option (Result End FrontFault)) (before after : Option Moves) : Type 0 where
  pub connects : Connects names ahead left start held result
  pub comes_back : ComesBack connects.given connects.next left connects.told held result connects.goes_on before after
