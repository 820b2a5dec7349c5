-- A book: the requests of one tenant in order, with what was told of each.
use Rattle.std.specs.Prelude.{◌≡◌, ℕ, ◌+◌, ◌-◌, ◌^◌, List, [], ◌∷◌, ◌++◌, map, length, slice_get, Bool, true, false, if◌then◌else◌, Option, Some, None, option_map, unwrap_or, IsSome, ◌≤◌, ◌<◌, ◌⊎◌}
use Rattle.ot_model.specs.Programs.{expanded_of}
use Rattle.ot_check.specs.Jobs.{Spec}
use Rattle.ot_store.specs.Arrays.{Named, cells_in}
use Rattle.ot_store.specs.declared.limits.Limits.{Limits}
use Rattle.ot_book.specs.Answers.{Told, is_lost, State, Step, Runs, is_checkpoint, step_of, answer_or_lost, answers, Now}
use Rattle.ot_book.specs.declared.book.Opened.{Opened}
use Rattle.ot_book.specs.declared.book.Opened.TheVariants.{Full, Answered, ToRun}

-- A tenant's name and limits, the arrays that the log begins with and the present ones, its lines with what was told, the
-- line of an open request, and the units of its done replies. The first line of the log has the number `first`, and
-- before it the done replies had `base_used` units.
pub record Register : Type 0 where
  pub name : List ℕ
  pub limits : Limits
  pub base : List Named
  pub store : List Named
  pub log : List (List ℕ × Told)
  pub pending : Option (List ℕ)
  pub used : ℕ
  pub first : ℕ
  pub base_used : ℕ

-- the number of the request at a place of the log, counted from 0; nothing else numbers requests
abbrev pub number_at : Register → ℕ → ℕ
number_at b place = b.first + place

-- the number of the next request
abbrev pub next_number : Register → ℕ
next_number b = number_at b (length b.log)

-- the greatest number of a request
abbrev pub max_number : ℕ
max_number = 2 ^ 32 - 1

abbrev pub state_in : Register → State
state_in b = record { arrays = b.store; next = next_number b; used = b.used }

-- before the first line of the log
abbrev pub start_of : Register → State
start_of b = record { arrays = b.base; next = b.first; used = b.base_used }

-- the lines of a log, with those answered for want of memory marked
abbrev pub lines_in : List (List ℕ × Told) → List (List ℕ × Bool)
lines_in log = map (λ e. (e.0, is_lost e.1)) log

-- what was told, the arrays, the next number and the used units are those that the lines give from the log's beginning
abbrev pub IsRight : Register → Type 0
IsRight b = answers b.limits (start_of b) (lines_in b.log) ≡ (map (λ e. e.1) b.log, state_in b)

-- the reply at a place of the log: its number and what was told
abbrev pub reply_at : Register → ℕ → Option (ℕ × Told)
reply_at b place = option_map (λ e. (number_at b place, e.1)) (slice_get b.log place)

-- what was told last
abbrev pub last_told : Register → Option Told
last_told book = option_map (λ reply. reply.1) (reply_at book (length book.log - 1))

-- a new book
abbrev pub new_register : List ℕ → Limits → List Named → Register
new_register name limits arrays =
    record { name = name; limits = limits; base = arrays; store = arrays; log = []; pending = None; used = 0; first = 1; base_used = 0 }

-- what the line does as the next request
abbrev pub next_step : Register → List ℕ → Step
next_step b line = step_of b.limits b.store b.used line

-- the book with the line behind its log, answered as the next request or for want of memory
abbrev pub register_with_line : Register → List ℕ → Bool → Register
register_with_line b line memory =
    let a = answer_or_lost b.limits (state_in b) line memory in
    record b { store = a.1.arrays; log = b.log ++ (line, a.0) ∷ []; pending = None; used = a.1.used }

-- the book with a log that begins at its present state
abbrev pub log_cleared : Register → Register
log_cleared b = record b { base = b.store; base_used = b.used; first = next_number b; log = [] }

-- The book with the line answered. A checkpoint is answered as other lines are, and the log begins with it. It is never
-- answered for want of memory.
abbrev pub line_logged : Register → List ℕ → Bool → Register
line_logged b line memory = if is_checkpoint line then register_with_line (log_cleared b) line memory else register_with_line b line memory

-- the book with the line's request open
abbrev pub request_opened : Register → List ℕ → Register
request_opened b line = record b { pending = Some line }

-- the line of the open request
abbrev pub open_line : Register → List ℕ
open_line b = unwrap_or b.pending []

-- what the open request does
abbrev pub open_step : Register → Step
open_step b = next_step b (open_line b)

-- the book with its open request answered
abbrev pub request_closed : Register → Register
request_closed b = line_logged b (open_line b) false

-- the book with its open request answered for want of memory
abbrev pub request_refused : Register → Register
request_refused b = line_logged b (open_line b) true

-- the book with its open request given up
abbrev pub given_up : Register → Register
given_up b = record b { pending = None }

-- The open request runs this program from the book's cells. A struct may keep that as a ghost field.
pub record IsOpenFor (b : Register) (spec : Spec) : Type 0 where
  pub is_open : IsSome b.pending
  pub asks : ∥ open_step b ≡ Runs (expanded_of spec.checked.program) ∥₁
  pub cells : spec.before ≡ cells_in b.store

-- What opening a request does to a book.

-- A line can't be taken: a request is open, its number would be too great, or the log is at its limit and the line is no
-- checkpoint.
abbrev pub IsFull : Register → Bool → Type 0
IsFull b checkpoint = IsSome b.pending ⊎ (max_number < next_number b) ⊎ ((b.limits.log ≤ length b.log) × (checkpoint ≡ false))

abbrev pub IsFullFor : Register → List ℕ → Type 0
IsFullFor b line = IsFull b (is_checkpoint line)

-- the line is answered at once: it runs no program, or memory ran out, but never for a checkpoint
pub record AnswersNow (b : Register) (line : List ℕ) (new : Register) : Type 0 where
  pub memory : Bool
  pub new_is : new ≡ line_logged b line memory
  pub never : is_checkpoint line ≡ true → memory ≡ false
  pub at_once : (memory ≡ true) ⊎ ((told : Told) × (arrays : List Named) × (next_step b line ≡ Now told arrays))

abbrev pub OpensLine : Register → List ℕ → Register → Opened → Type 0
OpensLine b line new Full = IsFullFor b line × (new ≡ b)
OpensLine b line new Answered = (¬ (IsFullFor b line)) × AnswersNow b line new
OpensLine b line new (ToRun spec) = (¬ (IsFullFor b line)) × (new ≡ request_opened b line) × IsOpenFor new spec
