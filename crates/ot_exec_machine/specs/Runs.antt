-- Runs: form after form, by the answers to the questions that are asked on the way.
use Rattle.std.specs.Prelude.{◌≡◌, ℕ, zero, suc, ◌+◌, nat_le, Bool, true, false, List, [], ◌∷◌, length, map, Option, Some, None, slice_get, if◌then◌else◌, Result, Ok, Err}
use Rattle.ot_exec_code.specs.declared.form.Code.{Code}
use Rattle.ot_exec_code.specs.declared.form.Form.{Form}
use Rattle.ot_exec_code.specs.declared.form.Form.TheVariants as f
use Rattle.ot_race.specs.Events.{Event}
use Rattle.ot_exec_outline.specs.View.{noted_in}
use Rattle.ot_exec_state.specs.Results.{◌>>=◌}
use Rattle.ot_exec_state.specs.Slots.{slots, slot_read, is_question, enter}
use Rattle.ot_exec_state.specs.Memory.{memory}
use Rattle.ot_exec_state.specs.Trail.{trail, context}
use Rattle.ot_exec_state.specs.Nest.{nest}
use Rattle.ot_exec_state.specs.Locks.{no_locks}
use Rattle.ot_exec_machine.specs.State.{MachineState, state, from}
use Rattle.ot_exec_machine.specs.Steps.{SteppedState, step}
use Rattle.ot_exec_state.specs.declared.fault.Fault.{Fault}
use Rattle.ot_exec_state.specs.declared.fault.Reason.{Reason}
use Rattle.ot_exec_state.specs.declared.fault.Reason.TheVariants.{Broken, TooManySteps, TooManyEvents}
use Rattle.ot_exec_state.specs.declared.limits.Limits.{Limits}
use Rattle.ot_exec_machine.specs.declared.run.Run.{Run}
use Rattle.ot_exec_machine.specs.declared.run.Stopped.{Stopped}
use Rattle.ot_exec_machine.specs.declared.run.Stopped.TheVariants as stops
use Rattle.ot_exec_state.specs.declared.trail.Entered.TheVariants as entered

-- a state, or the fault that ended the run, and how many questions were asked by then
abbrev pub Reached : Type 0
Reached = Result (MachineState × ℕ) Fault

abbrev pub fault : Reason → ℕ → ℕ → ℕ → Fault
fault reason at context asked = record { reason = reason; at = at; context = context; asked = asked }

abbrev pub fault_in : MachineState → ℕ → Reason → Fault
fault_in s asked reason = fault reason s.at s.trail.context asked

-- whether a form asks a question: by a value that isn't known
unfoldable pub asks : Form → MachineState → Bool
asks (f.Branch site r to) s = is_question (slot_read s.slots r)
asks (f.Task site first count behind items (Some r)) s = is_question (slot_read s.slots r)
asks _ s = false

abbrev pub step_told : MachineState → ℕ → SteppedState → Reached
step_told s asked (Ok t) = Ok (t, asked)
step_told s asked (Err r) = Err (fault_in s asked r)

-- the form is executed behind so many questions: by the next answer, where it asks for one
abbrev pub answered_step : Code → Limits → (ℕ → Bool) → ℕ → MachineState → Form → Bool → Reached
answered_step code l answers asked s form true = step_told s (asked + 1) (step code l form (answers asked) (from (s.at + 1) s))
answered_step code l answers asked s form false = step_told s asked (step code l form false (from (s.at + 1) s))

abbrev pub next_of : Code → Limits → (ℕ → Bool) → ℕ → MachineState → Option Form → Reached
next_of code l answers asked s None = Err (fault_in s asked Broken)
next_of code l answers asked s (Some form) = answered_step code l answers asked s form (asks form s)

unfoldable pub next : Code → Limits → (ℕ → Bool) → ℕ → MachineState → Reached
next code l answers asked s = next_of code l answers asked s (slice_get code.forms.items s.at)

-- until the run ends, by so many forms at most
abbrev pub runs_on : (ℕ → MachineState → Reached) → Reached → Reached
runs_on more (Ok p) = if p.0.ended then Ok p else more p.1 p.0
runs_on more (Err e) = Err e

unfoldable pub run_steps : Code → Limits → (ℕ → Bool) → ℕ → ℕ → MachineState → Reached
run_steps code l answers zero asked s = Err (fault_in s asked TooManySteps)
run_steps code l answers (suc steps) asked s = runs_on (run_steps code l answers steps) (next code l answers asked s)

-- the state in which code begins, with its own slots
unfoldable pub first_state : Code → Limits → SteppedState
first_state code l = do
  own ← enter l (slots 0 []) 0 code.slots
  Ok (state 0 own (memory [] []) (trail 0 0 (context 0 0 entered.Run ∷ []) [] [] [] 0) (nest [] [] []) no_locks [] 0 false)

abbrev pub run_from : Code → Limits → (ℕ → Bool) → SteppedState → Reached
run_from code l answers (Ok s) = run_steps code l answers l.steps 0 s
run_from code l answers (Err r) = Err (fault r 0 0 0)

-- no more events than there may be
abbrev pub too_many : MachineState × ℕ → Fault
too_many p = fault_in p.0 p.1 TooManyEvents

abbrev pub few : Limits → Reached → Reached
few l (Ok p) = if nat_le (length p.0.trail.log) l.events then Ok p else Err (too_many p)
few l (Err e) = Err e

-- the run of code by these answers
unfoldable pub run_of : Code → Limits → (ℕ → Bool) → Reached
run_of code l answers = few l (run_from code l answers (first_state code l))

-- ---- what is told of it

-- what a function returned, seen by view, is what the run reaches, unless memory ran out
abbrev pub Ends : Stopped → Reached → Type 0
Ends stops.Memory reached = Unit {0}
Ends (stops.By e) reached = reached ≡ Err e

abbrev pub LeadsTo : {X : Type 0} → (X → MachineState × ℕ) → Result X Stopped → Reached → Type 0
LeadsTo view (Ok x) reached = reached ≡ Ok (view x)
LeadsTo view (Err e) reached = Ends e reached

-- a run that ended has these events, each of which has a row and the number of a set of locks, these sets, contexts and objects; and one that
-- didn't has this fault
abbrev pub TellsEvents : Run → Reached → Type 0
TellsEvents r (Ok p) =
    (r.fault ≡ None) × (noted_in r.log.items ≡ p.0.trail.log) × (r.rows.items ≡ p.0.trail.rows)
    × (r.held.items ≡ p.0.trail.held) × (map (λ s. s.items) r.sets.items ≡ p.0.locks.sets) × (r.contexts.items ≡ p.0.trail.contexts)
    × (r.objects.items ≡ p.0.memory.objects) × (r.asked ≡ p.1)
TellsEvents r (Err e) = (r.fault ≡ Some e) × (r.log.items ≡ []) × (r.asked ≡ e.asked)

-- its events, of which there are none where it has a fault, and its questions
abbrev pub run_events_of : Reached → List Event
run_events_of (Ok p) = p.0.trail.log
run_events_of (Err e) = []

abbrev pub asked_in : Reached → ℕ
asked_in (Ok p) = p.1
asked_in (Err e) = e.asked
