-- The replies to lines, one after another.
use Rattle.std.specs.Prelude.{◌≡◌, [], ◌≤◌, ◌⊎◌, ℕ, ◌+◌, ◌-◌, List, ◌∷◌, ◌++◌, length, take, slice_get, codes, Bool, Option, Some, None, Result, Ok, Err, ◌==◌, fold, nat_le, is_some, if◌then◌else◌, map, false, option_map, unwrap_or}
use Rattle.std.specs.Io.KnownBytes.{Appends, Consumes}
use Rattle.ot_book.specs.Books.{Register, next_number, next_step, reply_at, line_logged}
use Rattle.ot_book.specs.Room.{room_in, Room, takes, room_after}
use Rattle.ot_session.specs.declared.fault.End.{End}
use Rattle.ot_session.specs.declared.fault.End.TheVariants.{EndOfInput, Full, LongLine, Closed, Bye}
use Rattle.ot_session.specs.declared.fault.FrontFault.{FrontFault}
use Rattle.ot_session.specs.declared.fault.FrontFault.TheVariants.{WriteFailed, Memory, Stranger, SocketFailed}
pub use Rattle.ot_lines.specs.Lines.{HasNoEnd}
pub use Rattle.ot_lines.specs.Goodbyes.{is_blank, without_front_blanks, line_trimmed, is_bye}
use Rattle.ot_model.specs.Programs.{Expanded}
use Rattle.ot_book.specs.Answers.{Runs, text_of}

-- lines, each with whether it is answered for want of memory
abbrev pub Lines : Type 0
Lines = List (List ℕ × Bool)

abbrev pub texts : Lines → List (List ℕ)
texts lines = map (λ l. l.0) lines

abbrev pub line_marks : Lines → List Bool
line_marks lines = map (λ l. l.1) lines

-- the lines with these marks beside them, and after the last mark with none
abbrev pub marked_lines : List (List ℕ) → List Bool → Lines
marked_lines [] lost = []
marked_lines (line ∷ lines) [] = (line, false) ∷ marked_lines lines []
marked_lines (line ∷ lines) (mark ∷ lost) = (line, mark) ∷ marked_lines lines lost

-- the book after the lines, one after another
abbrev pub after : Register → Lines → Register
after book [] = book
after book (line ∷ lines) = after (line_logged book line.0 line.1) lines

-- the last reply of a log, ended by one LF
abbrev pub last_reply : Register → List ℕ
last_reply book = unwrap_or (option_map (λ r. text_of r.0 r.1 ++ 10 ∷ []) (reply_at book (length book.log - 1))) []

-- the reply to a line as the next request: it stands last once the line is logged
abbrev pub reply_line : Register → List ℕ × Bool → List ℕ
reply_line book line = last_reply (line_logged book line.0 line.1)

-- the replies to the lines, one after another
abbrev pub session_told : Register → Lines → List ℕ
session_told book [] = []
session_told book (line ∷ lines) = reply_line book line ++ session_told (line_logged book line.0 line.1) lines

-- the line runs a program
abbrev pub RunsProgram : Register → List ℕ → Type 0
RunsProgram book line = (program : Expanded) × (next_step book line ≡ Runs program)

-- What a session hears: its input as lines, and where it ends.

-- bytes of a line, without its LF
abbrev pub max_line : ℕ
max_line = 65536

-- the lines that are requests, the line that has begun, and whether the session has ended
pub record Heard : Type 0 where
  pub lines : List (List ℕ)
  pub partial : List ℕ
  pub end : Option End

abbrev pub nothing_heard : Heard
nothing_heard = record { lines = []; partial = []; end = None }

-- A whole line: the goodbye ends the session, and so does any other line that the log has no room for after those before it.
abbrev pub with_line : Room → Heard → Heard
with_line room h =
    if is_bye h.partial then record { lines = h.lines; partial = []; end = Some Bye }
    else (if takes (room_after room h.lines) h.partial then record { lines = h.lines ++ h.partial ∷ []; partial = []; end = None }
    else record { lines = h.lines; partial = []; end = Some Full })

-- A byte of a line, which ends the session where the line is as long as a line may be.
abbrev pub with_byte : Heard → ℕ → Heard
with_byte h byte =
    if nat_le max_line (length h.partial) then record { lines = h.lines; partial = h.partial; end = Some LongLine }
    else record { lines = h.lines; partial = h.partial ++ byte ∷ []; end = None }

-- one byte more: after the end nothing is heard
abbrev pub hear : Room → Heard → ℕ → Heard
hear room h byte = if is_some h.end then h else (if byte == 10 then with_line room h else with_byte h byte)

-- what is heard of the bytes, where the log has this room
abbrev pub heard : Room → List ℕ → Heard
heard room bytes = fold (hear room) nothing_heard bytes

-- What a session writes, and what it leaves, is a function of what it reads.

-- how a session closes
abbrev pub closing : Option End → List ℕ
closing (Some Full) = codes "[\"full\"]" ++ 10 ∷ []
closing (Some LongLine) = codes "[\"long\"]" ++ 10 ∷ []
closing end = []

-- what a session hears in the bytes
abbrev pub heard_in : Register → List ℕ → Heard
heard_in book bytes = heard (room_in book) bytes

-- What a session writes: the replies to the lines that it hears in the bytes, and then how it closes.
-- Beside the first lines stands whether they are answered for want of memory.
abbrev pub session_text : Register → List ℕ → List Bool → List ℕ
session_text book bytes lost =
    let h = heard_in book bytes in
    session_told book (marked_lines h.lines lost) ++ closing h.end

-- the first of the lines, one for each mark: they are logged
abbrev pub logged_lines : Register → List ℕ → List Bool → Lines
logged_lines book bytes lost = take (length lost) (marked_lines (heard_in book bytes).lines lost)

-- All lines are logged, the whole text is written, and the session has come to this end.
pub record TellsAll (book : Register) (bytes : List ℕ) (lost : List Bool) (written : List ℕ) (end : Option End) : Type 0 where
  pub ends : (heard_in book bytes).end ≡ end
  pub logs : length lost ≡ length (heard_in book bytes).lines
  pub tells : written ≡ session_text book bytes lost

-- The next line runs a program and isn't logged. The replies to the lines before it are written, and
-- nothing else.
pub record LeavesRun (book : Register) (bytes : List ℕ) (lost : List Bool) (written : List ℕ) : Type 0 where
  pub next : List ℕ
  pub is_next : slice_get (heard_in book bytes).lines (length lost) ≡ Some next
  pub runs : RunsProgram (after book (logged_lines book bytes lost)) next
  pub tells : written ≡ session_told book (logged_lines book bytes lost)

-- A beginning of the text is written. Of the replies to the lines that are logged at most bytes of the
-- last are missing, and no other line is answered.
pub record BreaksOff (book : Register) (bytes : List ℕ) (lost : List Bool) (written : List ℕ) : Type 0 where
  pub missing : List ℕ
  pub begins : session_text book bytes lost ≡ written ++ missing
  pub all_but_last : length (session_told book (take (length lost - 1) (logged_lines book bytes lost))) ≤ length written
  pub no_other : (length written ≤ length (session_told book (logged_lines book bytes lost))) ⊎ (length lost ≡ length (heard_in book bytes).lines)

-- what is written and logged, by the result
abbrev pub SessionTells : Register → List ℕ → List Bool → List ℕ → Result End FrontFault → Type 0
SessionTells book bytes lost written (Ok EndOfInput) = TellsAll book bytes lost written None
SessionTells book bytes lost written (Ok Closed) = LeavesRun book bytes lost written
SessionTells book bytes lost written (Ok end) = TellsAll book bytes lost written (Some end)
SessionTells book bytes lost written (Err Stranger) = LeavesRun book bytes lost written
SessionTells book bytes lost written (Err WriteFailed) = BreaksOff book bytes lost written
SessionTells book bytes lost written (Err Memory) = BreaksOff book bytes lost written
SessionTells book bytes lost written (Err SocketFailed) = ⊥
SessionTells book bytes lost written (Err fault) = TellsAll book bytes lost written None

-- A session over bytes: the first of the lines that it hears are logged, as many as the number of the next request
-- has grown by, and so much of its text is written as its result tells. Of lines that a checkpoint dropped from the
-- log what was written tells which were answered for want of memory: no other reply has that text.
pub record Session (old new : Register) (bytes : List ℕ) (start held : Option (List ℕ)) (result : Result End FrontFault) : Type 0 where
  pub lost : List Bool
  pub written : List ℕ
  pub few : length lost ≤ length (heard_in old bytes).lines
  pub grown : next_number new ≡ next_number old + length lost
  pub logs : new ≡ after old (logged_lines old bytes lost)
  pub writes : Appends start held written
  pub tells : SessionTells old bytes lost written result

-- A session over the bytes that it read. Before the last read, which gave at most `latest` of them, it
-- had heard no end, and it has logged all lines that it had heard.
pub record Serves (old new : Register) (ahead left : Option (List ℕ)) (latest : ℕ) (start held : Option (List ℕ)) (result : Result End FrontFault) : Type 0 where
  pub before : List ℕ
  pub last : List ℕ
  pub reads : Consumes ahead left (before ++ last)
  pub few : length last ≤ latest
  pub session : Session old new (before ++ last) start held result
  pub goes_on : (heard_in old before).end ≡ None
  pub logs : length (heard_in old before).lines ≤ length session.lost
