-- The first line of a connection, and what is answered to it.
use Rattle.std.specs.Prelude.{◌≡◌, ◌≢◌, [], ◌⊎◌, ◌≤◌, ℕ, ◌+◌, List, ◌∷◌, ◌++◌, length, codes, if◌then◌else◌, ⊤, Option, Some, None, option_and_then, Result, Ok, Err}
use Rattle.std.specs.Io.KnownBytes.{Appends, Consumes, IsAtEnd}
use Rattle.serde_json.specs.Data.{Data, string, array, Items, no_items, item}
use Rattle.serde_json.specs.Find.{as_array}
use Rattle.serde_json.specs.Written.{compact_text}
use Rattle.ot_program.specs.Meanings.{is_word}
use Rattle.ot_book.specs.Answers.{value_of, nat}
use Rattle.ot_book.specs.Books.{Register, next_number}
use Rattle.ot_book.specs.Requests.{name_in}
use Rattle.ot_lines.specs.Lines.{Flow, next_count, count_after}
use Rattle.ot_session.specs.Serving.{Draft, AppendsFront}
use Rattle.ot_session.specs.Session.{HasNoEnd, Serves}
use Rattle.ot_front.specs.Desks.{IsKnown}
use Rattle.ot_session.specs.declared.fault.FrontFault.{FrontFault}
use Rattle.ot_session.specs.declared.fault.FrontFault.TheVariants.{ReadFailed, WriteFailed, TooManyTurns, Memory}
use Rattle.ot_front.specs.declared.refusal.Refusal.{Refusal}
use Rattle.ot_front.specs.declared.refusal.Refusal.TheVariants.{NotJson, NotGreeting, Unknown, Busy}
use Rattle.ot_session.specs.declared.fault.End.{End}
use Rattle.ot_session.specs.declared.fault.End.TheVariants.{EndOfInput}

-- bytes of a first line, without its LF
abbrev pub max_first_line : ℕ
max_first_line = 64

-- ---- what was read

-- the line with its LF, and nothing behind it
pub record IsFirstLine (bytes line : List ℕ) : Type 0 where
  pub ends : bytes ≡ line ++ 10 ∷ []
  pub one : HasNoEnd line
  pub short : length line ≤ max_first_line

-- one byte too many, and no LF among them
pub record IsTooLong (bytes : List ℕ) : Type 0 where
  pub clean : HasNoEnd bytes
  pub long : length bytes ≡ max_first_line + 1

-- no LF, and the line may still become whole
pub record IsCutLine (bytes : List ℕ) : Type 0 where
  pub clean : HasNoEnd bytes
  pub short : length bytes ≤ max_first_line

-- ---- what a first line asks

-- the name in `["hello", name]`
abbrev pub hello_of : Items → Option (List ℕ)
hello_of (item t (item a no_items)) = if is_word t (codes "hello") then name_in a else None
hello_of ds = None

-- the tenant's name, or why there is none
abbrev pub Greeting : Type 0
Greeting = Result (List ℕ) Refusal

abbrev pub greeting_named : Option (List ℕ) → Greeting
greeting_named None = Err NotGreeting
greeting_named (Some name) = Ok name

abbrev pub greeting_in_data : Option Data → Greeting
greeting_in_data None = Err NotJson
greeting_in_data (Some d) = greeting_named (option_and_then hello_of (as_array d))

-- what a line asks
abbrev pub greeting_of : List ℕ → Greeting
greeting_of line = greeting_in_data (value_of line)

-- what the bytes ask that were read: those of a whole line, or too many
abbrev pub Asks : List ℕ → Greeting → Type 0
Asks bytes greeting =
    ((line : List ℕ) × IsFirstLine bytes line × (greeting ≡ greeting_of line)) ⊎ (IsTooLong bytes × (greeting ≡ Err NotGreeting))

-- ---- what is answered

-- the desk gives no book of that name
abbrev pub IsAbsent : List (List ℕ) → List ℕ → Refusal → Type 0
IsAbsent names name Unknown = ¬ (IsKnown names name)
IsAbsent names name Busy = IsKnown names name
IsAbsent names name why = ⊥

-- why there is no book: the line names none, or the desk gives none
abbrev pub IsRefused : List (List ℕ) → Greeting → Refusal → Type 0
IsRefused names (Err reason) why = why ≡ reason
IsRefused names (Ok name) why = IsAbsent names name why

-- the book has the name that was asked for, and the desk knows it
pub record IsGiven (names : List (List ℕ)) (greeting : Greeting) (book : Register) : Type 0 where
  pub asked : greeting ≡ Ok book.name
  pub known : IsKnown names book.name

-- `["err",0,code]` and an LF
abbrev pub refusal_text : Refusal → List ℕ
refusal_text NotJson = codes "[\"err\",0,410]" ++ 10 ∷ []
refusal_text NotGreeting = codes "[\"err\",0,411]" ++ 10 ∷ []
refusal_text Unknown = codes "[\"err\",0,404]" ++ 10 ∷ []
refusal_text Busy = codes "[\"err\",0,409]" ++ 10 ∷ []

-- `["hello", name, n]`, n being the number of the next request
abbrev pub hello_json : Register → Data
hello_json book = array (item (string (codes "hello")) (item (string book.name) (item (nat (next_number book)) no_items)))

-- the same as text, and an LF
abbrev pub hello_text : Register → List ℕ
hello_text book = compact_text (hello_json book) ++ 10 ∷ []

-- the reply to a greeting
abbrev pub IsReply : List (List ℕ) → Greeting → List ℕ → Type 0
IsReply names greeting text =
    ((why : Refusal) × IsRefused names greeting why × (text ≡ refusal_text why))
    ⊎ ((book : Register) × IsGiven names greeting book × (text ≡ hello_text book))

-- how much of a reply is written, by the result
abbrev pub WritesReply : {A : Type 0} → Option (List ℕ) → Option (List ℕ) → List ℕ → Result A FrontFault → Type 0
WritesReply start held text (Ok given) = Appends start held text
WritesReply start held text (Err WriteFailed) = AppendsFront start held text
WritesReply start held text (Err Memory) = held ≡ start
WritesReply start held text (Err fault) = ⊥

-- what is written in answer to a greeting, by the result
abbrev pub Answers : List (List ℕ) → Greeting → Option (List ℕ) → Option (List ℕ) → Result (Option Register) FrontFault → Type 0
Answers names greeting start held (Ok (Some book)) = IsGiven names greeting book × Appends start held (hello_text book)
Answers names greeting start held (Ok None) = (why : Refusal) × IsRefused names greeting why × Appends start held (refusal_text why)
Answers names greeting start held (Err WriteFailed) = (text : List ℕ) × IsReply names greeting text × AppendsFront start held text
Answers names greeting start held (Err Memory) = held ≡ start
Answers names greeting start held (Err fault) = ⊥

-- A connection that never asked: its input ended or failed, or memory ran out before the first byte.
abbrev pub NeverAsks : List ℕ → Option (List ℕ) → Type 0 → Result (Option Register) FrontFault → Type 0
NeverAsks bytes left ended (Ok None) = IsAtEnd left × ended
NeverAsks bytes left ended (Err ReadFailed) = ⊤
NeverAsks bytes left ended (Err Memory) = bytes ≡ []
NeverAsks bytes left ended result = ⊥

-- What was asked is answered; where nothing was asked nothing is written.
abbrev pub AnswersFirstLine : List (List ℕ) → List ℕ → Option (List ℕ) → Type 0 → Option (List ℕ) → Option (List ℕ) → Result (Option Register) FrontFault → Type 0
AnswersFirstLine names bytes left ended start held result =
    ((greeting : Greeting) × Asks bytes greeting × Answers names greeting start held result)
    ⊎ (IsCutLine bytes × (held ≡ start) × NeverAsks bytes left ended result)

-- a connection's first line was read, and nothing behind it, and answered
pub record Greets (names : List (List ℕ)) (ahead left : Option (List ℕ)) (ended : Type 0) (start held : Option (List ℕ)) (result : Result (Option Register) FrontFault) : Type 0 where
  pub bytes : List ℕ
  pub reads : Consumes ahead left bytes
  pub tells : AnswersFirstLine names bytes left ended start held result

-- a session of this book, up to this end
pub record HasSession (book : Register) (ahead left start held : Option (List ℕ)) (result : Result End FrontFault) : Type 0 where
  pub after : Register
  pub latest : ℕ
  pub serves : Serves book after ahead left latest start held result

-- Behind a greeting that gives a book stands its session, and this is how it ended; behind any other stands nothing.
abbrev pub GoesOn : Result (Option Register) FrontFault → Option (List ℕ) → Option (List ℕ) → Option (List ℕ) → Option (List ℕ) → Option (Result End FrontFault) → Type 0
GoesOn (Ok (Some book)) ahead left start held (Some result) = HasSession book ahead left start held result
GoesOn (Ok (Some book)) ahead left start held None = ⊥
GoesOn given ahead left start held result = (left ≡ ahead) × (held ≡ start) × (result ≡ None)

-- a connection from its first byte to its last, and how its session ended, if it had one
pub record Connects (names : List (List ℕ)) (ahead left start held : Option (List ℕ)) (result : Option (Result End FrontFault)) : Type 0 where
  pub given : Result (Option Register) FrontFault
  pub next : Option (List ℕ)
  pub told : Option (List ℕ)
  pub greets : Greets names ahead next ⊤ start told given
  pub goes_on : GoesOn given next left told held result

-- What the devices tell of how a session behind a greeting ended: what is told of reads and writes happened, and nothing else did. A
-- greeting takes at most 65 reads, and a session 1,000,000.
pub record TellsEnd (before after : Flow) (earlier later : Draft) (result : Result End FrontFault) : Type 0 where
  pub turns : result ≡ Err TooManyTurns → (k : ℕ) × (k ≤ 65) × (after.reads ≡ count_after 1000000 (count_after k before.reads))
  pub at_end : result ≡ Ok EndOfInput → IsAtEnd after.ahead
  pub end_told : result ≡ Ok EndOfInput → after.ends ≡ next_count before.ends
  pub read_failed : result ≡ Err ReadFailed → after.failures ≡ next_count before.failures
  pub read_worked : result ≢ Err ReadFailed → after.failures ≡ before.failures
  pub write_failed : result ≡ Err WriteFailed → later.failures ≡ next_count earlier.failures
  pub write_worked : result ≢ Err WriteFailed → later.failures ≡ earlier.failures
