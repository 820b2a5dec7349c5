-- What a sink tells of itself, and what a session does to its devices.
use Rattle.std.specs.Prelude.{◌≡◌, [], ◌≢◌, ◌≤◌, ◌++◌, ◌∷◌, ℕ, List, length, Option, None, Result, Ok, Err, ⊤, ◌<◌, take}
use Rattle.std.specs.Io.KnownBytes.{Appends, Consumes, IsAtEnd}
use Rattle.ot_book.specs.Books.{Register, next_number}
use Rattle.ot_lines.specs.declared.lines.Bounds.{Bounds}
use Rattle.ot_session.specs.Session.{max_line, heard_in, Session, Serves, Lines, texts, after, session_told}
use Rattle.ot_session.specs.declared.fault.End.{End}
use Rattle.ot_session.specs.declared.fault.End.TheVariants as end
use Rattle.ot_session.specs.declared.fault.FrontFault.{FrontFault}
use Rattle.ot_session.specs.declared.fault.FrontFault.TheVariants as fault
use Rattle.ot_session.specs.declared.stop.Stop.{Stop}
use Rattle.ot_session.specs.declared.stop.Stop.TheVariants.{Bye, Full, LongLine, Closed, Stranger, WriteFailed, Memory}
use Rattle.ot_lines.specs.Lines.{Flow}
pub use Rattle.ot_lines.specs.Lines.{next_count, count_after}

-- The bytes that a sink holds, where they are known, and how often it failed. It counts in 64 bits, so a count begins again
-- at 0 after 2^64.
pub record Draft : Type 0 where
  pub held : Option (List ℕ)
  pub failures : ℕ

abbrev pub draft : Option (List ℕ) → ℕ → Draft
draft held failures = record { held = held; failures = failures }

-- known bytes grow by the first bytes of bs, and not by all of them
abbrev pub AppendsFront : Option (List ℕ) → Option (List ℕ) → List ℕ → Type 0
AppendsFront old new bs = (n : ℕ) × (n < length bs) × Appends old new (take n bs)

-- all of the bytes go out
pub record Writes (old new : Draft) (bytes : List ℕ) : Type 0 where
  pub bytes_out : Appends old.held new.held bytes
  pub worked : new.failures ≡ old.failures

-- a front of the bytes goes out, and then a write fails
pub record BreaksOffIn (old new : Draft) (bytes : List ℕ) : Type 0 where
  pub front : AppendsFront old.held new.held bytes
  pub failed : new.failures ≡ next_count old.failures

-- A session in the middle: between two bytes, and between two reads.

-- what a session answers that stops so
abbrev pub result_of : Stop → Result End FrontFault
result_of Bye = Ok end.Bye
result_of Full = Ok end.Full
result_of LongLine = Ok end.LongLine
result_of Closed = Ok end.Closed
result_of Stranger = Err fault.Stranger
result_of WriteFailed = Err fault.WriteFailed
result_of Memory = Err fault.Memory

-- how many writes failed
abbrev pub failed_writes : Result ⊤ Stop → ℕ
failed_writes (Err WriteFailed) = 1
failed_writes result = 0

-- The session goes on: the lines that were heard are logged and their replies written.
pub record Going (first : Register) (start : Option (List ℕ)) (bytes partial : List ℕ) (book : Register) (held : Option (List ℕ)) : Type 0 where
  pub lines : Lines
  pub hears : heard_in first bytes ≡ record { lines = texts lines; partial = partial; end = None }
  pub short : length partial ≤ max_line
  pub logs : book ≡ after first lines
  pub writes : Appends start held (session_told first lines)

-- it goes on, or it has stopped in these bytes
abbrev pub Goes : Register → Option (List ℕ) → List ℕ → List ℕ → Register → Option (List ℕ) → Result ⊤ Stop → Type 0
Goes first start bytes partial book held (Ok done) = Going first start bytes partial book held
Goes first start bytes partial book held (Err stop) = Session first book bytes start held (result_of stop)

-- A line without its LF, by what it came to: behind any bytes, and as whatever request of a book it comes.
pub record TakesLine (old : Register) (earlier : Draft) (line : List ℕ) (new : Register) (later : Draft) (result : Result ⊤ Stop) : Type 0 where
  pub goes : (first : Register) (start : Option (List ℕ)) (bytes : List ℕ) → first.pending ≡ None → Going first start bytes line old earlier.held →
      Goes first start (bytes ++ 10 ∷ []) [] new later.held result
  pub grows : next_number old ≤ next_number new
  pub failures : later.failures ≡ count_after (failed_writes result) earlier.failures

-- the bytes that were read, and the session that goes on over them
pub record Serving (first : Register) (ahead left start : Option (List ℕ)) (partial : List ℕ) (book : Register) (held : Option (List ℕ)) : Type 0 where
  pub bytes : List ℕ
  pub reads : Consumes ahead left bytes
  pub going : Going first start bytes partial book held

-- ---- a whole session

-- lines of at most 65,536 bytes, as many bytes a read, and 1,000,000 reads
abbrev pub session_bounds : Bounds
session_bounds = record { line = 65536; read = 65536; reads = 1000000 }

-- A session over what a source and a sink tell of themselves, before it and after it. What is told of reads and writes
-- happened, and nothing else did.
pub record IsServed (old new : Register) (before after : Flow) (earlier later : Draft) (result : Result End FrontFault) : Type 0 where
  pub serves : Serves old new before.ahead after.ahead after.latest earlier.held later.held result
  pub closed : new.pending ≡ None
  pub reads : (k : ℕ) × (k ≤ 1000000) × (after.reads ≡ count_after k before.reads)
  pub turns : result ≡ Err fault.TooManyTurns → after.reads ≡ count_after 1000000 before.reads
  pub at_end : result ≡ Ok end.EndOfInput → IsAtEnd after.ahead
  pub end_told : result ≡ Ok end.EndOfInput → after.ends ≡ next_count before.ends
  pub read_failed : result ≡ Err fault.ReadFailed → after.failures ≡ next_count before.failures
  pub read_worked : result ≢ Err fault.ReadFailed → after.failures ≡ before.failures
  pub write_failed : result ≡ Err fault.WriteFailed → later.failures ≡ next_count earlier.failures
  pub write_worked : result ≢ Err fault.WriteFailed → later.failures ≡ earlier.failures
