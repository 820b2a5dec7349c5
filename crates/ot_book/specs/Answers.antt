-- What a tenant is told, and how it is written.
use Rattle.std.specs.Prelude.{◌≡◌, [], ℕ, ◌+◌, List, ◌++◌, ◌∷◌, map, slice_range, slice_get, unwrap_or, Bool, true, false, if◌then◌else◌, Option, Some, None, option_and_then, Result, Ok, Err, codes}
use Rattle.std.specs.Str.{is_utf8}
use Rattle.serde_json.specs.Data.{Data, number, string, array, unsigned, no_items, item}
use Rattle.serde_json.specs.Read.{read}
use Rattle.ot_model.specs.Programs.{Expanded}
use Rattle.ot_model.specs.Serial.{serial_run}
use Rattle.ot_model.specs.declared.expr.Section.{Section}
use Rattle.ot_program.specs.Programs.{program_of}
use Rattle.ot_program.specs.Faults as program
use Rattle.ot_program.specs.declared.fault.Refusal.{Refusal}
use Rattle.ot_check.specs.Laws.{first_offence}
use Rattle.ot_check.specs.Offences as check
use Rattle.ot_check.specs.declared.fault.Offence.{Offence}
use Rattle.ot_store.specs.Arrays.{Named, array_created, array_freed, numbers_put, got, arrays_listed, cells_in, with_cells, shape_in}
use Rattle.ot_store.specs.Refusals as store
use Rattle.ot_store.specs.declared.fault.StoreRefusal.{StoreRefusal}
use Rattle.ot_store.specs.declared.limits.Limits.{Limits}
use Rattle.ot_book.specs.Requests as r
use Rattle.serde_json.specs.View.{items_of}
use Rattle.serde_json.specs.Written.{compact_text}

-- what a tenant is told of one request; no request's number is in it
pub data Told : Type 0 where
  Accepted : Told
  Cells : List ℕ → Told
  Arrays : List (List ℕ × ℕ) → Told
  Used : ℕ → Told
  Done : ℕ → ℕ → List (List ℕ) → Told
  Refused : ℕ → Told
  Offends : ℕ → ℕ → Told
  Lost : Told

-- whether it was told for want of memory
abbrev pub is_lost : Told → Bool
is_lost Lost = true
is_lost told = false

-- the code of a refusal
abbrev pub code_in : Told → Option ℕ
code_in (Refused code) = Some code
code_in (Offends code place) = Some code
code_in Lost = Some 508
code_in told = None

abbrev pub nat : ℕ → Data
nat n = number (unsigned n)

abbrev pub nats : List ℕ → Data
nats ns = array (items_of (map nat ns))

-- a name with a length
abbrev pub name_and_length : List ℕ × ℕ → Data
name_and_length a = array (item (string a.0) (item (nat a.1) no_items))

abbrev pub refusal : ℕ → ℕ → Data
refusal n code = array (item (string (codes "err")) (item (nat n) (item (nat code) no_items)))

-- What is told of request n: `["ok",n]`, `["cells",n,[v,..]]`, `["arrays",n,[[name,len],..]]`,
-- `["used",n,units]`, `["done",n,tasks,units,[[v,..],..]]`, `["err",n,code]`, `["err",n,code,place]`.
abbrev pub json_of : ℕ → Told → Data
json_of n Accepted = array (item (string (codes "ok")) (item (nat n) no_items))
json_of n (Cells values) = array (item (string (codes "cells")) (item (nat n) (item (nats values) no_items)))
json_of n (Arrays arrays) = array (item (string (codes "arrays")) (item (nat n) (item (array (items_of (map name_and_length arrays))) no_items)))
json_of n (Used units) = array (item (string (codes "used")) (item (nat n) (item (nat units) no_items)))
json_of n (Done tasks units shows) =
    array (item (string (codes "done")) (item (nat n) (item (nat tasks) (item (nat units) (item (array (items_of (map nats shows))) no_items)))))
json_of n (Refused code) = refusal n code
json_of n (Offends code place) = array (item (string (codes "err")) (item (nat n) (item (nat code) (item (nat place) no_items))))
json_of n Lost = refusal n 508

-- the reply as compact JSON
abbrev pub text_of : ℕ → Told → List ℕ
text_of n told = compact_text (json_of n told)

-- What requests are answered, one after another. No answer knows its number.

-- a tenant's arrays, the number of its next request, and the units of all done replies
pub record State : Type 0 where
  pub arrays : List Named
  pub next : ℕ
  pub used : ℕ

-- before the first request
abbrev pub opening : List Named → State
opening arrays = record { arrays = arrays; next = 1; used = 0 }

-- a request is answered at once and leaves these arrays, or runs a program
pub data Step : Type 0 where
  Now : Told → List Named → Step
  Runs : Expanded → Step

-- whether a program would be run
abbrev pub is_run : Step → Bool
is_run (Now told arrays) = false
is_run (Runs program) = true

abbrev pub change_step : List Named → Result (List Named) StoreRefusal → Step
change_step arrays (Ok new) = Now Accepted new
change_step arrays (Err refusal) = Now (Refused (store.code_of refusal)) arrays

abbrev pub cells_step : List Named → Result (List ℕ) StoreRefusal → Step
cells_step arrays (Ok values) = Now (Cells values) arrays
cells_step arrays (Err refusal) = Now (Refused (store.code_of refusal)) arrays

-- a program is run where nothing in it is an offence; otherwise its first offence is told
abbrev pub offence_step : List Named → Expanded → Option (ℕ × Offence) → Step
offence_step arrays p None = Runs p
offence_step arrays p (Some first) = Now (Offends (check.code_of first.1) first.0) arrays

-- What `first_offence` is says `first_offence_is_first` of ot_check: the first of the offences on the
-- paths of the body, and no other value.
abbrev pub program_step : List Named → Result Expanded Refusal → Step
program_step arrays (Ok p) = offence_step arrays p (first_offence p.body)
program_step arrays (Err refusal) = Now (Refused (program.code_of refusal)) arrays

-- what a request does to these arrays, after done replies of so many units
abbrev pub perform_step : Limits → List Named → ℕ → r.Request → Step
perform_step limits arrays used (r.New name len) = change_step arrays (array_created name len limits arrays)
perform_step limits arrays used (r.Free name) = change_step arrays (array_freed name arrays)
perform_step limits arrays used (r.Put name start values) = change_step arrays (numbers_put name start values arrays)
perform_step limits arrays used (r.Get name start len) = cells_step arrays (got name start len arrays)
perform_step limits arrays used r.Arrays = Now (Arrays (arrays_listed arrays)) arrays
perform_step limits arrays used r.Used = Now (Used used) arrays
perform_step limits arrays used r.Checkpoint = Now Accepted arrays
perform_step limits arrays used (r.Run text) = program_step arrays (program_of (shape_in limits arrays) text)

abbrev pub request_step : Limits → List Named → ℕ → Option r.Request → Step
request_step limits arrays used None = Now (Refused 411) arrays
request_step limits arrays used (Some request) = perform_step limits arrays used request

abbrev pub parse_step : Limits → List Named → ℕ → Option Data → Step
parse_step limits arrays used None = Now (Refused 410) arrays
parse_step limits arrays used (Some d) = request_step limits arrays used (r.request_of d)

-- the value of a line, where it is JSON in UTF-8
abbrev pub value_of : List ℕ → Option Data
value_of line = if is_utf8 line then read line else None

-- the line asks for a checkpoint
abbrev pub is_checkpoint : List ℕ → Bool
is_checkpoint line = r.asks_checkpoint (option_and_then r.request_of (value_of line))

-- what a line does
abbrev pub step_of : Limits → List Named → ℕ → List ℕ → Step
step_of limits arrays used line = parse_step limits arrays used (value_of line)

-- the numbers of each section
abbrev pub numbers_shown : List Section → List (List ℕ) → List (List ℕ)
numbers_shown shows cells = map (λ s. slice_range (unwrap_or (slice_get cells s.array) []) s.start (s.start + s.len)) shows

-- A program is executed from the arrays, each task where it is created. The sections are shown as
-- they are after it.
abbrev pub step_done : State → Step → Told × State
step_done s (Now told arrays) = (told, record { arrays = arrays; next = s.next + 1; used = s.used })
step_done s (Runs p) =
    let run = serial_run p.body (cells_in s.arrays) in (
      Done run.tasks run.units (numbers_shown p.shows run.cells),
      record { arrays = with_cells s.arrays run.cells; next = s.next + 1; used = s.used + run.units },
    )

-- one request: what is told, and the state after it
abbrev pub answer : Limits → State → List ℕ → Told × State
answer limits s line = step_done s (step_of limits s.arrays s.used line)

-- the answer for want of memory, and the state after it
abbrev pub loss_told : State → Told × State
loss_told s = (Lost, record s { next = s.next + 1 })

abbrev pub answer_or_lost : Limits → State → List ℕ → Bool → Told × State
answer_or_lost limits s line true = loss_told s
answer_or_lost limits s line false = answer limits s line

-- The answers to lines, and the state after them. Beside each line stands whether it was answered
-- for want of memory.
abbrev pub answers : Limits → State → List (List ℕ × Bool) → List Told × State
answers limits s [] = ([], s)
answers limits s (l ∷ ls) =
    let one = answer_or_lost limits s l.0 l.1 in
    let rest = answers limits one.1 ls in
    (one.0 ∷ rest.0, rest.1)

-- The answers to lines followed by others are those to the first ones, and then those to the others from the state after
-- the first.
abbrev pub AnswersGoOn : Type 0
AnswersGoOn = (limits : Limits) (s : State) (xs ys : List (List ℕ × Bool)) →
    answers limits s (xs ++ ys) ≡ (
      (answers limits s xs).0 ++ (answers limits (answers limits s xs).1 ys).0,
      (answers limits (answers limits s xs).1 ys).1,
    )

-- what is told, with the numbers of the requests, of which the first has this number
abbrev pub told_with_numbers : ℕ → List Told → List (ℕ × Told)
told_with_numbers n [] = []
told_with_numbers n (told ∷ more) = (n, told) ∷ told_with_numbers (n + 1) more

-- the replies to lines from a state on
abbrev pub replies : Limits → State → List (List ℕ × Bool) → List (ℕ × Told)
replies limits s lines = told_with_numbers s.next (answers limits s lines).0

-- the same of replies
abbrev pub RepliesGoOn : Type 0
RepliesGoOn = (limits : Limits) (s : State) (xs ys : List (List ℕ × Bool)) →
    replies limits s (xs ++ ys) ≡ replies limits s xs ++ replies limits (answers limits s xs).1 ys
