-- What is told of a session that was read to its end.
use Rattle.std.specs.Prelude.{◌≡◌, [], ◌≤◌, ◌++◌, ◌∷◌, ℕ, List, map, length, false, Option, Some, None, option_map, Result, Ok, Err, ⊤}
use Rattle.std.specs.Io.KnownBytes.{Consumes}
use Rattle.ot_book.specs.Answers as r
use Rattle.ot_book.specs.Books.{Register}
use Rattle.ot_session.specs.Session.{max_line, heard_in, Lines, after}
use Rattle.ot_session.specs.declared.fault.End.TheVariants as end
use Rattle.ot_show_last.specs.LastRuns.{Run, Taken, BadAt, last_found, found_in, beginner, run_of, IsSessionOver}
use Rattle.ot_show_last.specs.declared.found.LastRun.{LastRun}
use Rattle.ot_show_last.specs.declared.fault.LastFault.{LastFault}
use Rattle.ot_show_last.specs.declared.fault.LastFault.TheVariants as fault
use Rattle.ot_show_last.specs.declared.fault.Untaken.TheVariants as answer
use Rattle.ot_show_last.specs.declared.stop.Stop.{Stop}
use Rattle.ot_show_last.specs.declared.stop.Stop.TheVariants.{Bye, Bad, Memory}

-- A session in the middle: between two bytes, and where it stops.

-- the last run so far
abbrev pub run_in : Option LastRun → Option Run
run_in last = option_map run_of last

-- lines none of which is answered for want of memory
abbrev pub lines_kept : List (List ℕ) → Lines
lines_kept lines = map (λ line. (line, false)) lines

-- The session goes on: the lines that were heard are all taken, and this is the last run among them.
pub record GoesOnHearing (bytes partial : List ℕ) (book : Register) (last : Option Run) : Type 0 where
  pub lines : List (List ℕ)
  pub hears : heard_in beginner bytes ≡ record { lines = lines; partial = partial; end = None }
  pub short : length partial ≤ max_line
  pub logs : book ≡ after beginner (lines_kept lines)
  pub taken : last_found beginner None lines ≡ Taken last

-- what is so of these bytes where the session stopped
abbrev pub Says : List ℕ → Option Run → Stop → Type 0
Says bytes last Bye = ((heard_in beginner bytes).end ≡ Some end.Bye) × (found_in beginner bytes ≡ Taken last)
Says bytes last (Bad number answer) = found_in beginner bytes ≡ BadAt number answer
Says bytes last Memory = Unit {0}

-- it goes on, or it has stopped in these bytes, whatever follows
abbrev pub GoesOrStops : List ℕ → List ℕ → Register → Option Run → Result ⊤ Stop → Type 0
GoesOrStops bytes partial book last (Ok done) = GoesOnHearing bytes partial book last
GoesOrStops bytes partial book last (Err stop) = (more : List ℕ) → Says (bytes ++ more) last stop

-- what a line comes to that was told this, as the request of this number
abbrev pub told_result : r.Told → ℕ → Result ⊤ Stop
told_result (r.Refused code) number = Err (Bad number (answer.Refused code))
told_result (r.Offends code place) number = Err (Bad number (answer.Offends code place))
told_result r.Lost number = Err Memory
told_result told number = Ok tt

-- what is told where the session stopped
abbrev pub stop_result : Stop → Result ⊤ LastFault
stop_result Bye = Ok tt
stop_result (Bad number answer) = Err (fault.BadLine number answer)
stop_result Memory = Err fault.Memory

-- the last run, where all was read
abbrev pub told_at_end : Result ⊤ LastFault → Option LastRun → Result LastRun LastFault
told_at_end (Ok done) (Some last) = Ok last
told_at_end (Ok done) None = Err fault.NoRun
told_at_end (Err why) last = Err why

-- what is so of a session that was read so far
abbrev pub SaysAfter : Option (List ℕ) → List ℕ → Option Run → Result ⊤ LastFault → Type 0
SaysAfter left bytes last (Ok done) = IsSessionOver left bytes × (found_in beginner bytes ≡ Taken last)
SaysAfter left bytes last (Err fault.NoRun) = ⊥
SaysAfter left bytes last (Err (fault.BadLine number answer)) = found_in beginner bytes ≡ BadAt number answer
SaysAfter left bytes last (Err other) = Unit {0}

-- the bytes that were read, and what is so of them
pub record HearsSession (ahead left : Option (List ℕ)) (last : Option Run) (result : Result ⊤ LastFault) : Type 0 where
  pub bytes : List ℕ
  pub reads : Consumes ahead left bytes
  pub says : SaysAfter left bytes last result

-- a line without its LF, by what it came to
abbrev pub TakesHeardLine : Register → Option Run → List ℕ → Register → Option Run → Result ⊤ Stop → Type 0
TakesHeardLine old last line new now result = (bytes : List ℕ) → GoesOnHearing bytes line old last → GoesOrStops (bytes ++ 10 ∷ []) [] new now result
