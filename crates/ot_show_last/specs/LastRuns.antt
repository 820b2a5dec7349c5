-- The last program that a session runs, or its first line that isn't taken.
use Rattle.std.specs.Prelude.{ℕ, [], ◌+◌, List, ◌∷◌, length, codes, Bool, true, false, if◌then◌else◌, Option, Some, None, ◌≡◌, Result, Ok, Err, ◌⊎◌}
use Rattle.ot_model.specs.Programs.{Expanded, expanded_of, arrays_of}
use Rattle.ot_store.specs.Arrays.{Named, arrays_listed, cells_in}
use Rattle.ot_store.specs.Refusals.{usual_limits}
use Rattle.ot_book.specs.Answers as r
use Rattle.ot_book.specs.Answers.{Step, Now, Runs}
use Rattle.ot_book.specs.Books.{Register, new_register, next_number, next_step, line_logged}
use Rattle.ot_session.specs.Session.{heard_in}
use Rattle.ot_session.specs.declared.fault.End.{End}
use Rattle.ot_session.specs.declared.fault.End.TheVariants.{Full, LongLine}
use Rattle.ot_show_last.specs.declared.fault.Untaken.{Untaken}
use Rattle.ot_show_last.specs.declared.fault.Untaken.TheVariants as answer
use Rattle.ot_show_last.specs.declared.found.LastRun.{LastRun}
use Rattle.std.specs.Io.KnownBytes.{Consumes, IsAtEnd}
use Rattle.ot_session.specs.declared.fault.End.TheVariants as end
use Rattle.ot_show_last.specs.declared.fault.LastFault.{LastFault}
use Rattle.ot_show_last.specs.declared.fault.LastFault.TheVariants.{NoRun, BadLine}

-- a program that is run, the names and lengths of the arrays, and the cells before it
pub record Run : Type 0 where
  pub program : Expanded
  pub arrays : List (List ℕ × ℕ)
  pub cells : List (List ℕ)

-- what lines come to: all are taken, and the last run among them, if any; or the first that isn't taken, by its number, and what
-- it is answered
pub data Found : Type 0 where
  Taken : Option Run → Found
  BadAt : ℕ → Untaken → Found

-- whether what is told is a refusal
abbrev pub is_refusal : r.Told → Bool
is_refusal (r.Refused code) = true
is_refusal (r.Offends code place) = true
is_refusal r.Lost = true
is_refusal told = false

-- the answer that is a refusal
abbrev pub answer_of : r.Told → Untaken
answer_of (r.Refused code) = answer.Refused code
answer_of (r.Offends code place) = answer.Offends code place
answer_of told = answer.Refused 508

abbrev pub run_with : Expanded → List (List ℕ × ℕ) → List (List ℕ) → Run
run_with program arrays cells = record { program = program; arrays = arrays; cells = cells }

-- a program that runs over these arrays
abbrev pub run_over : List Named → Expanded → Run
run_over arrays program = run_with program (arrays_listed arrays) (cells_in arrays)

-- what a line comes to with those behind it, which go on from the run that is the last so far
abbrev pub found_by : Step → Register → Option Run → (Option Run → Found) → Found
found_by (Runs program) book last more = more (Some (run_over book.store program))
found_by (Now told arrays) book last more = if is_refusal told then BadAt (next_number book) (answer_of told) else more last

-- what lines come to as the next requests of a book, where this is the last run so far
abbrev pub last_found : Register → Option Run → List (List ℕ) → Found
last_found book last [] = Taken last
last_found book last (line ∷ lines) = found_by (next_step book line) book last (λ now. last_found (line_logged book line false) now lines)

-- a line at which a session closes isn't taken where it is too long, or the log is full; a goodbye isn't bad
abbrev pub closed_by : Option End → ℕ → Found → Found
closed_by (Some Full) number (Taken last) = BadAt number answer.Full
closed_by (Some LongLine) number (Taken last) = BadAt number answer.Long
closed_by end number all = all

-- what a session comes to that hears these bytes
abbrev pub found_in : Register → List ℕ → Found
found_in book bytes = let h = heard_in book bytes in closed_by h.end (next_number book + length h.lines) (last_found book None h.lines)

-- a tenant that begins, as `solo` has it
abbrev pub beginner : Register
beginner = new_register (codes "t1") usual_limits []

-- the run that a value of the code stands for
abbrev pub run_of : LastRun → Run
run_of last = run_with (expanded_of last.spec.checked.program) (arrays_of last.arrays.items) last.spec.before

-- the session is over: it heard a goodbye, or its source has nothing more
abbrev pub IsSessionOver : Option (List ℕ) → List ℕ → Type 0
IsSessionOver left bytes = ((heard_in beginner bytes).end ≡ Some end.Bye) ⊎ IsAtEnd left

-- what is told after these bytes
abbrev pub TellsOf : Option (List ℕ) → List ℕ → Result LastRun LastFault → Type 0
TellsOf left bytes (Ok last) = IsSessionOver left bytes × (found_in beginner bytes ≡ Taken (Some (run_of last)))
TellsOf left bytes (Err NoRun) = IsSessionOver left bytes × (found_in beginner bytes ≡ Taken None)
TellsOf left bytes (Err (BadLine number answer)) = found_in beginner bytes ≡ BadAt number answer
TellsOf left bytes (Err fault) = Unit {0}

-- These bytes were read, and so much is told of them.
pub record Finds (ahead left : Option (List ℕ)) (result : Result LastRun LastFault) : Type 0 where
  pub bytes : List ℕ
  pub reads : Consumes ahead left bytes
  pub tells : TellsOf left bytes result
