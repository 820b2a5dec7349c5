-- What happens: the events so far, each with the place in the text where it happens and the calls and turns of loops in which it does.
use Rattle.std.specs.Prelude.{ℕ, ◌+◌, ◌-◌, ◌++◌, nat_lt, nat_le, ◌&&◌, List, [], ◌∷◌, length, flat_map, if◌then◌else◌, Some, None, Result, Ok, Err}
use Rattle.std.specs.List.{sum_by}
use Rattle.ot_model.specs.declared.stmt.Mode.{Mode}
use Rattle.ot_model.specs.declared.stmt.Mode.TheVariants.{Writes}
use Rattle.ot_model.specs.declared.stmt.Use.{Use}
use Rattle.ot_race.specs.Events.{Deed, Touches, Begins, Awaits, Leaves, Event, event}
use Rattle.ot_exec_state.specs.Memory.{uses_of, count_of}
use Rattle.ot_exec_state.specs.declared.fault.Reason.{Reason}
use Rattle.ot_exec_state.specs.declared.fault.Reason.TheVariants.{Broken, TooManyEvents, TooManyTurns}
use Rattle.ot_exec_state.specs.declared.limits.Limits.{Limits}
use Rattle.ot_exec_state.specs.declared.memory.Span.{Span}
use Rattle.ot_exec_state.specs.declared.nest.Part.{Part}
use Rattle.ot_exec_state.specs.declared.trail.Context.{Context}
use Rattle.ot_exec_state.specs.declared.trail.Entered.{Entered}
use Rattle.ot_exec_state.specs.declared.trail.Row.{Row}

-- the task that runs, the context in which it does, all contexts, for each event its row and the number of the set of locks that it holds,
-- the events, and how many cells they name
pub record Trail : Type 0 where
  pub task : ℕ
  pub context : ℕ
  pub contexts : List Context
  pub rows : List Row
  pub held : List ℕ
  pub log : List Event
  pub touches : ℕ

abbrev pub trail : ℕ → ℕ → List Context → List Row → List ℕ → List Event → ℕ → Trail
trail task context contexts rows held log touches =
    record { task = task; context = context; contexts = contexts; rows = rows; held = held; log = log; touches = touches }

-- a context: that in which it stands, the site, and what is entered there
abbrev pub context : ℕ → ℕ → Entered → Context
context outer site entered = record { outer = outer; site = site; entered = entered }

abbrev pub row : ℕ → ℕ → Row
row site context = record { site = site; context = context }

-- how many cells a deed names
abbrev pub deed_weight : Deed → ℕ
deed_weight Touches = 0
deed_weight (Begins parent d) = length d
deed_weight (Awaits None) = 0
deed_weight (Awaits (Some d)) = length d
deed_weight (Leaves count) = 0

-- an event at this site that holds the set of locks of this number, whose place is its row
unfoldable pub note : Limits → ℕ → ℕ → Deed → List Use → Trail → Result Trail Reason
note l site set deed uses t =
    let touches = t.touches + deed_weight deed + length uses in
    if nat_lt (length t.rows) l.events && nat_le touches l.touches
    then Ok (trail t.task t.context t.contexts (t.rows ++ row site t.context ∷ []) (t.held ++ set ∷ [])
    (t.log ++ event t.task (length t.rows) deed uses ∷ []) touches)
    else Err TooManyEvents

-- cells are used
unfoldable pub touch : Limits → ℕ → ℕ → Mode → Span → Trail → Result Trail Reason
touch l site set mode s t = if nat_le (t.touches + count_of s) l.touches then note l site set Touches (uses_of mode s) t else Err TooManyEvents

-- so many are written that only the task sees
unfoldable pub touches_charged : Limits → ℕ → Trail → Result Trail Reason
touches_charged l count t = if nat_le (t.touches + count) l.touches then Ok (trail t.task t.context t.contexts t.rows t.held t.log (t.touches + count)) else Err TooManyEvents

-- the cells of items, written
abbrev pub written_by : List Part → List Use
written_by ps = flat_map (λ p. uses_of Writes p.span) ps

-- a region ends before which so many events were, and writes its items, without locks
unfoldable pub leaves : Limits → ℕ → ℕ → List Part → Trail → Result Trail Reason
leaves l site start ps t =
    if nat_lt (length t.rows) l.events && nat_le (t.touches + sum_by (λ p. count_of p.span) ps) l.touches
    then note l site 0 (Leaves (length t.rows - start)) (written_by ps) t
    else Err TooManyEvents

-- a call or a turn of a loop begins
unfoldable pub enters : Limits → ℕ → Entered → Trail → Result Trail Reason
enters l site by t =
    if nat_lt (length t.contexts) l.contexts
    then Ok (trail t.task (length t.contexts) (t.contexts ++ context t.context site by ∷ []) t.rows t.held t.log t.touches)
    else Err TooManyTurns

-- back to a context
unfoldable pub within : Limits → ℕ → Trail → Result Trail Reason
within l n t = if nat_lt n l.contexts && nat_lt n (length t.contexts) then Ok (trail t.task n t.contexts t.rows t.held t.log t.touches) else Err Broken

-- this task runs on, in this context
abbrev pub by_task : ℕ → ℕ → Trail → Trail
by_task task context t = trail task context t.contexts t.rows t.held t.log t.touches
