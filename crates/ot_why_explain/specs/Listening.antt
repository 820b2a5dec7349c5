-- A session that is explained, and one of which the remarks alone are written, from line to line.
use Rattle.std.specs.Prelude.{◌≡◌, [], ◌≤◌, ℕ, List, ◌∷◌, ◌++◌, length, Option, Some, None, Result, Ok, Err, IfOk, ⊤, All, flat_map}
use Rattle.std.specs.Io.KnownBytes.{Appends}
use Rattle.ot_book.specs.Books.{Register, next_number}
use Rattle.ot_session.specs.Session.{HasNoEnd, max_line, closing, heard_in, Session, Lines, texts, after}
use Rattle.ot_session.specs.Serving.{Going}
use Rattle.ot_session.specs.declared.fault.End.{End}
use Rattle.ot_session.specs.declared.fault.End.TheVariants.{EndOfInput, Full, LongLine}
use Rattle.ot_session.specs.declared.fault.FrontFault.{FrontFault}
use Rattle.ot_session.specs.declared.fault.FrontFault.TheVariants.{ReadFailed, TooManyTurns, SocketFailed}
use Rattle.ot_why_explain.specs.declared.explaining.Explained.{Explained}
use Rattle.ot_why_explain.specs.declared.explaining.Explained.TheVariants.{SomeRefused}
use Rattle.ot_why_explain.specs.Explaining.{Remarked, RemarksOn, refuses, remark_line, says, without_remarks}

-- remarks, one after another
pub record IsRemarks (text : List ℕ) : Type 0 where
  pub lines : List (List ℕ)
  pub are : All HasNoEnd lines
  pub is : text ≡ flat_map remark_line lines

-- the text ends where a line ends: what follows has lines of its own
abbrev pub IsWhole : List ℕ → Type 0
IsWhole text = (more : List ℕ) → without_remarks (text ++ more) ≡ without_remarks text ++ without_remarks more

-- what is said at such an end, where this was said of the lines before it
abbrev pub said_at : End → Explained → Explained
said_at Full said = SomeRefused
said_at LongLine said = SomeRefused
said_at end said = said

-- the lines that are heard in these bytes are logged, and their replies are remarked on
pub record Noted (first book : Register) (bytes text : List ℕ) (said : Explained) : Type 0 where
  pub lines : Lines
  pub hears : (heard_in first bytes).lines ≡ texts lines
  pub logs : book ≡ after first lines
  pub remarked : Remarked first lines text
  pub tells : said ≡ says (refuses first lines)

-- so are those that were logged before the session came to this end
pub record Closing (first new : Register) (bytes text : List ℕ) (end : End) (said : Explained) : Type 0 where
  pub lines : Lines
  pub others : List (List ℕ)
  pub hears : (heard_in first bytes).lines ≡ texts lines ++ others
  pub logs : new ≡ after first lines
  pub replies : List ℕ
  pub remarked : Remarked first lines replies
  pub is : text ≡ replies ++ closing (Some end)
  pub tells : said ≡ says (refuses first lines)

-- The session goes on over these bytes, in a line that has begun; what is written ends where a line ends.
pub record Explaining (first : Register) (start : Option (List ℕ)) (bytes partial : List ℕ) (book : Register) (held : Option (List ℕ)) (said : Explained) : Type 0 where
  pub text : List ℕ
  pub writes : Appends start held text
  pub whole : IsWhole text
  pub begun : List ℕ
  pub is : bytes ≡ begun ++ partial
  pub clean : HasNoEnd partial
  pub short : length partial ≤ max_line
  pub going : Going first (Some []) begun [] book (Some (without_remarks text))
  pub noted : Noted first book begun text said

-- a session may stop so with bytes behind it
abbrev pub IsStop : Result End FrontFault → Type 0
IsStop (Ok EndOfInput) = ⊥
IsStop (Err ReadFailed) = ⊥
IsStop (Err TooManyTurns) = ⊥
IsStop (Err SocketFailed) = ⊥
IsStop result = Unit {0}

-- it stopped in these bytes
pub record Stopped (first new : Register) (start : Option (List ℕ)) (bytes : List ℕ) (held : Option (List ℕ)) (said : Explained) (result : Result End FrontFault) : Type 0 where
  pub stops : IsStop result
  pub text : List ℕ
  pub writes : Appends start held text
  pub session : Session first new bytes (Some []) (Some (without_remarks text)) result
  pub closes : IfOk result (λ end. Closing first new bytes text end said)

-- it goes on, or it has stopped
abbrev pub GoesOn : Register → Option (List ℕ) → List ℕ → List ℕ → Register → Option (List ℕ) → Explained → Result ⊤ (Result End FrontFault) → Type 0
GoesOn first start bytes partial book held said (Ok done) = Explaining first start bytes partial book held said
GoesOn first start bytes partial book held said (Err result) = Stopped first book start bytes held said result

-- a line without its LF, by what it came to
pub record ExplainsLine (old : Register) (said : Explained) (held : Option (List ℕ)) (line : List ℕ) (new : Register) (later : Explained) (now : Option (List ℕ)) (result : Result ⊤ (Result End FrontFault)) : Type 0 where
  pub goes : (first : Register) (start : Option (List ℕ)) (bytes : List ℕ) → first.pending ≡ None → HasNoEnd line → length line ≤ max_line →
      Explaining first start bytes [] old held said → GoesOn first start (bytes ++ (line ++ 10 ∷ [])) [] new now later result
  pub grows : next_number old ≤ next_number new

-- a line was served whole, or a session over it stopped
abbrev pub Served : Register → Register → List ℕ → Option (List ℕ) → Option (List ℕ) → Option (Result End FrontFault) → Type 0
Served old new line start held None = Session old new line start held (Ok EndOfInput)
Served old new line start held (Some result) = IsStop result × Session old new line start held result

-- the lines that are heard in these bytes are logged, and these are the remarks on their replies
pub record Hushed (first : Register) (start : Option (List ℕ)) (bytes : List ℕ) (book : Register) (held : Option (List ℕ)) (said : Explained) : Type 0 where
  pub going : Going first None bytes [] book None
  pub lines : Lines
  pub hears : (heard_in first bytes).lines ≡ texts lines
  pub logs : book ≡ after first lines
  pub text : List ℕ
  pub remarks : RemarksOn first lines text
  pub writes : Appends start held text
  pub tells : said ≡ says (refuses first lines)

-- the session ended at the last line of these bytes, which wasn't logged
pub record HushedEnd (first : Register) (bytes : List ℕ) (old new : Register) (held now : Option (List ℕ)) (before said : Explained) (end : End) : Type 0 where
  pub stops : IsStop (Ok end)
  pub session : Session first new bytes None None (Ok end)
  pub unlogged : new ≡ old
  pub unwritten : now ≡ held
  pub unsaid : said ≡ before

-- it goes on, or it has ended; of one that came to a fault nothing is said
abbrev pub HushedOn : Register → Option (List ℕ) → List ℕ → Register → Register → Option (List ℕ) → Option (List ℕ) → Explained → Explained → Result ⊤ (Result End FrontFault) → Type 0
HushedOn first start bytes old new held now before said (Ok done) = Hushed first start bytes new now said
HushedOn first start bytes old new held now before said (Err (Ok end)) = HushedEnd first bytes old new held now before said end
HushedOn first start bytes old new held now before said (Err (Err why)) = ⊤

-- a line without its LF, by what it came to
pub record HushesLine (old : Register) (before : Explained) (held : Option (List ℕ)) (line : List ℕ) (new : Register) (said : Explained) (now : Option (List ℕ)) (result : Result ⊤ (Result End FrontFault)) : Type 0 where
  pub goes : (first : Register) (start : Option (List ℕ)) (bytes : List ℕ) → first.pending ≡ None → HasNoEnd line → length line ≤ max_line →
      Hushed first start bytes old held before → HushedOn first start (bytes ++ (line ++ 10 ∷ [])) old new held now before said result
  pub grows : next_number old ≤ next_number new
