-- What each form makes of a state, whose next form is already that behind it.
use Rattle.std.specs.Prelude.{ℕ, ◌+◌, ◌-◌, ◌*◌, ◌==◌, nat_lt, nat_le, Bool, true, false, not, List, [], ◌∷◌, length, Option, Some, None, slice_get, if◌then◌else◌, Result, Ok, Err}
use Rattle.ot_exec_code.specs.declared.form.Code.{Code}
use Rattle.ot_exec_code.specs.declared.form.Depends.{Depends}
use Rattle.ot_exec_code.specs.declared.form.Depends.TheVariants.{MutexInOutSet}
use Rattle.ot_exec_code.specs.declared.form.Folded.{Folded}
use Rattle.ot_exec_code.specs.declared.form.Form.{Form}
use Rattle.ot_exec_code.specs.declared.form.Form.TheVariants as f
use Rattle.ot_exec_code.specs.declared.form.Item.{Item}
use Rattle.ot_exec_code.specs.declared.kind.Kind.{Kind}
use Rattle.ot_exec_code.specs.declared.operation.Operation.{Operation}
use Rattle.ot_model.specs.declared.expr.Cell.{Cell}
use Rattle.ot_model.specs.declared.fold.Fold.{Fold}
use Rattle.ot_model.specs.declared.stmt.Mode.TheVariants.{Reads, Writes}
use Rattle.ot_model.specs.declared.stmt.Use.{Use}
use Rattle.ot_parts.specs.Modes.{use_as}
use Rattle.ot_race.specs.Events.{Begins, Awaits}
use Rattle.ot_exec_state.specs.Results.{◌>>=◌, found_or, each}
use Rattle.ot_exec_state.specs.Values.{number_or, is_unknown, is_so, values_combined, value_converted, place_advanced, distance}
use Rattle.ot_exec_state.specs.Siblings.{unordered_mode, begins_siblings, siblings_behind}
use Rattle.ot_exec_state.specs.Slots.{Slots, slots, slot_read, slot_put, enter}
use Rattle.ot_exec_state.specs.Memory.{Memory, cell, count_of, span_of, span_at, value_taken, kept_value, cells_filled, object_new, object_finished}
use Rattle.ot_exec_state.specs.Trail.{note, touch, touches_charged, leaves, enters, within, by_task}
use Rattle.ot_exec_state.specs.Locks.{Locks, with_held, holds_number, adding, holding, taking, giving_back}
use Rattle.ot_exec_state.specs.Nest.{Nest, frame, frame_opened, frame_closed, region_begun, region_closed, joins}
use Rattle.ot_exec_state.specs.Clauses.{with_use, items_of, reduced_parts}
use Rattle.ot_exec_machine.specs.State.{MachineState, state, with_slots, with_trail, with_locks, from}
use Rattle.ot_exec_state.specs.declared.fault.Reason.{Reason}
use Rattle.ot_exec_state.specs.declared.fault.Reason.TheVariants.{Broken, Null, Outside, Changes, NoFunction, NoGroup, UnknownCondition, UnknownLength, TooManyTasks, TooMuch}
use Rattle.ot_exec_state.specs.declared.limits.Limits.{Limits}
use Rattle.ot_exec_state.specs.declared.locks.Lock.{Lock}
use Rattle.ot_exec_state.specs.declared.locks.Lock.TheVariants.{ByItem}
use Rattle.ot_exec_state.specs.declared.memory.Span.{Span}
use Rattle.ot_exec_state.specs.declared.nest.Frame.{Frame}
use Rattle.ot_exec_state.specs.declared.nest.Kept.{Kept}
use Rattle.ot_exec_state.specs.declared.nest.Kept.TheVariants as kept_as
use Rattle.ot_exec_state.specs.declared.trail.Entered.{Entered}
use Rattle.ot_exec_state.specs.declared.trail.Entered.TheVariants as entered
use Rattle.ot_exec_state.specs.declared.value.Value.{Value}
use Rattle.ot_exec_state.specs.declared.value.Value.TheVariants.{Number, Pointer, Function, Unknown}

abbrev pub SteppedState : Type 0
SteppedState = Result MachineState Reason

-- ---- what a value is

abbrev pub function : Value → Result ℕ Reason
function (Function k) = Ok k
function (Number n) = Err (if n == 0 then Null else NoFunction)
function _ = Err NoFunction

abbrev pub turn_of : Value → Entered
turn_of (Number n) = entered.Turn n
turn_of _ = entered.SomeTurn

-- ---- slots

unfoldable pub putting : ℕ → Value → MachineState → SteppedState
putting to x s = do
  slots ← slot_put s.slots to x
  Ok (with_slots s slots)

unfoldable pub copying : ℕ → ℕ → MachineState → SteppedState
copying to r s = do
  x ← slot_read s.slots r
  putting to x s

unfoldable pub operating : ℕ → Operation → Kind → ℕ → ℕ → MachineState → SteppedState
operating to op kind one other s = do
  x ← slot_read s.slots one
  y ← slot_read s.slots other
  z ← values_combined op kind x y
  putting to z s

unfoldable pub converting : ℕ → Kind → ℕ → MachineState → SteppedState
converting to kind r s = do
  x ← slot_read s.slots r
  putting to (value_converted kind x) s

unfoldable pub advancing : ℕ → ℕ → ℕ → ℕ → ℕ → MachineState → SteppedState
advancing to place r stride cells s = do
  x ← slot_read s.slots place
  n ← slot_read s.slots r
  putting to (place_advanced x n stride cells) s

unfoldable pub measuring : ℕ → ℕ → ℕ → ℕ → MachineState → SteppedState
measuring to one other stride s = do
  x ← slot_read s.slots one
  y ← slot_read s.slots other
  putting to (distance x y stride) s

-- ---- objects

-- what the cells of a new object have
abbrev pub first_value : Bool → Value
first_value zero = if zero then Number 0 else Unknown

unfoldable pub object_begun : Limits → ℕ → ℕ → ℕ → Bool → MachineState → SteppedState
object_begun l to count name zero s = do
  m ← object_new l count (first_value zero) name s.memory
  slots ← slot_put s.slots to (Pointer m.0 0)
  Ok (state s.at slots m.1 s.trail s.nest s.locks s.siblings s.tasks s.ended)

unfoldable pub allocating : Limits → ℕ → ℕ → ℕ → ℕ → Bool → MachineState → SteppedState
allocating l to name r cells zero s = do
  x ← slot_read s.slots r
  n ← number_or UnknownLength x
  if nat_le (n * cells) l.members then object_begun l to (n * cells) name zero s else Err TooMuch

-- its end writes all its cells, without locks
unfoldable pub object_ended : Limits → ℕ → ℕ → MachineState → SteppedState
object_ended l site r s = do
  x ← slot_read s.slots r
  m ← object_finished s.memory x
  trail ← touch l site 0 Writes m.0 s.trail
  Ok (state s.at s.slots m.1 trail s.nest s.locks s.siblings s.tasks s.ended)

-- ---- locks

-- the number by which the object of these cells is named
unfoldable pub named_at : Memory → Span → Result ℕ Reason
named_at m c = do
  o ← found_or Broken (slice_get m.objects c.object)
  Ok o.name

-- What is known of a value that is read in these cells by a task that holds the set of this number: under a lock nothing, where tasks write
-- there under locks
unfoldable pub value_seen : Code → Memory → ℕ → Span → Value → Result Value Reason
value_seen code m held c x = if held == 0 then Ok x else do
  name ← named_at m c
  Ok (if holds_number name code.changing.items then Unknown else x)

-- what is known of one that it writes there: under a lock nothing, and the code has to say that such is written
unfoldable pub value_written : Code → Memory → ℕ → Span → Value → Result Value Reason
value_written code m held c x = if held == 0 then Ok x else do
  name ← named_at m c
  if holds_number name code.changing.items then Ok Unknown else Err (Changes name)

unfoldable pub locking : Limits → ℕ → MachineState → SteppedState
locking l r s = do
  x ← slot_read s.slots r
  locks ← taking l x s.locks
  Ok (with_locks s locks)

unfoldable pub unlocking : Limits → ℕ → MachineState → SteppedState
unlocking l r s = do
  x ← slot_read s.slots r
  locks ← giving_back l x s.locks
  Ok (with_locks s locks)

-- ---- cells

unfoldable pub loading : Code → Limits → ℕ → ℕ → ℕ → MachineState → SteppedState
loading code l site to r s = do
  place ← slot_read s.slots r
  span ← span_of s.memory place 1
  there ← value_taken s.memory place span
  x ← value_seen code s.memory s.locks.held span there
  trail ← touch l site s.locks.held Reads span s.trail
  putting to x (with_trail s trail)

unfoldable pub storing : Code → Limits → ℕ → ℕ → ℕ → MachineState → SteppedState
storing code l site r other s = do
  place ← slot_read s.slots r
  x ← slot_read s.slots other
  span ← span_of s.memory place 1
  there ← value_written code s.memory s.locks.held span (kept_value place x)
  trail ← touch l site s.locks.held Writes span s.trail
  memory ← cells_filled s.memory span there
  Ok (state s.at s.slots memory trail s.nest s.locks s.siblings s.tasks s.ended)

unfoldable pub loading_own : ℕ → ℕ → MachineState → SteppedState
loading_own to r s = do
  place ← slot_read s.slots r
  span ← span_of s.memory place 1
  x ← value_taken s.memory place span
  putting to x s

unfoldable pub storing_own : Limits → ℕ → ℕ → MachineState → SteppedState
storing_own l r other s = do
  place ← slot_read s.slots r
  x ← slot_read s.slots other
  span ← span_of s.memory place 1
  trail ← touches_charged l (count_of span - 1) s.trail
  memory ← cells_filled s.memory span (kept_value place x)
  Ok (state s.at s.slots memory trail s.nest s.locks s.siblings s.tasks s.ended)

unfoldable pub reading_range : Limits → ℕ → ℕ → ℕ → MachineState → SteppedState
reading_range l site r other s = do
  place ← slot_read s.slots r
  x ← slot_read s.slots other
  count ← number_or UnknownLength x
  span ← span_of s.memory place count
  trail ← touch l site s.locks.held Reads span s.trail
  Ok (with_trail s trail)

unfoldable pub writing_range : Code → Limits → ℕ → ℕ → ℕ → MachineState → SteppedState
writing_range code l site r other s = do
  place ← slot_read s.slots r
  x ← slot_read s.slots other
  count ← number_or UnknownLength x
  span ← span_of s.memory place count
  there ← value_written code s.memory s.locks.held span Unknown
  trail ← touch l site s.locks.held Writes span s.trail
  memory ← cells_filled s.memory span there
  Ok (state s.at s.slots memory trail s.nest s.locks s.siblings s.tasks s.ended)

-- ---- where the run goes on

unfoldable pub branching : ℕ → ℕ → Bool → MachineState → SteppedState
branching r to answer s = do
  x ← slot_read s.slots r
  if is_so x answer then Ok s else Ok (from to s)

unfoldable pub repeating : ℕ → ℕ → MachineState → SteppedState
repeating r to s = do
  x ← slot_read s.slots r
  if is_unknown x then Err UnknownCondition else (if is_so x false then Ok s else Ok (from to s))

-- the frame of a call or a task that begins here, behind which this form is next
abbrev pub frame_here : ℕ → Kept → MachineState → Frame
frame_here back kept s = frame back s.slots.base s.trail.task s.trail.context s.locks.held (length s.nest.groups) kept

unfoldable pub calling : Code → Limits → ℕ → ℕ → ℕ → MachineState → SteppedState
calling code l site k first s = do
  it ← found_or Broken (slice_get code.functions.items k)
  n ← frame_opened l (frame_here s.at kept_as.Call s) s.nest
  slots ← enter l s.slots first it.slots
  trail ← enters l site entered.Call s.trail
  Ok (state it.start slots s.memory trail n s.locks s.siblings s.tasks s.ended)

unfoldable pub calling_by : Code → Limits → ℕ → ℕ → ℕ → MachineState → SteppedState
calling_by code l site r first s = do
  x ← slot_read s.slots r
  k ← function x
  calling code l site k first s

-- what goes on where a frame ends
abbrev pub state_resumed : MachineState → ℕ → ℕ → ℕ → ℕ → Nest → MachineState
state_resumed s back base task context n = state back (slots base s.slots.values) s.memory (by_task task context s.trail) n s.locks s.siblings s.tasks s.ended

abbrev pub is_kept_by_call : Kept → Bool
is_kept_by_call kept_as.Call = true
is_kept_by_call _ = false

unfoldable pub returning : MachineState → SteppedState
returning s = do
  c ← frame_closed s.nest
  if is_kept_by_call c.0.kept then Ok (state_resumed s c.0.back c.0.base c.0.task c.0.context c.1) else Err Broken

-- ---- tasks

-- whether a task is undeferred
abbrev pub is_undeferred : Slots → Option ℕ → Bool → Result Bool Reason
is_undeferred s None answer = Ok false
is_undeferred s (Some r) answer = do
  x ← slot_read s r
  Ok (not (is_so x answer))

-- What it declares, and how its end is told. The end of one that is undeferred stands for a write of a cell of its own
unfoldable pub apart : Limits → ℕ → Bool → List Use → Memory → Result ((List Use × Kept) × Memory) Reason
apart l site false uses m = Ok ((uses, kept_as.Deferred), m)
apart l site true uses m = do
  o ← object_new l 0 Unknown 0 m
  Ok ((with_use (use_as Writes (cell o.0 0)) uses, kept_as.AtOnce site o.0), o.1)

-- the next task begins
unfoldable pub beginning_task : Limits → ℕ → List Use → MachineState → SteppedState
beginning_task l site uses s = do
  tasks ← if nat_lt s.tasks l.tasks then Ok (s.tasks + 1) else Err TooManyTasks
  trail ← note l site 0 (Begins s.trail.task uses) [] (by_task tasks s.trail.context s.trail)
  Ok (state s.at s.slots s.memory trail s.nest s.locks s.siblings tasks s.ended)

-- an empty child that writes a cell stands between siblings that name it
unfoldable pub parting : Limits → ℕ → Cell → MachineState → SteppedState
parting l site c s = do
  t ← beginning_task l site (use_as Writes c ∷ []) s
  Ok (with_trail t (by_task s.trail.task s.trail.context t.trail))

unfoldable pub parting_where : Bool → Limits → ℕ → Cell → MachineState → SteppedState
parting_where true l site c s = parting l site c s
parting_where false l site c s = Ok s

-- the locks of a child that excludes its siblings by an item
unfoldable pub excluding : Limits → Depends → Lock → List ℕ → Locks → Result (List ℕ × Locks) Reason
excluding l MutexInOutSet x ns locks = adding l x ns locks
excluding l mode x ns locks = Ok (ns, locks)

-- behind a child that depends by a cell so, and holds these locks besides
unfoldable pub siding_at : Limits → ℕ → Depends → Cell → MachineState × List ℕ → Result (MachineState × List ℕ) Reason
siding_at l site mode c p = do
  s ← parting_where (begins_siblings mode (unordered_mode p.0.trail.task c p.0.siblings)) l site c p.0
  siblings ← siblings_behind l s.trail.task c mode s.siblings
  locks ← excluding l mode (ByItem s.trail.task c.array c.index) p.1 s.locks
  Ok (state s.at s.slots s.memory s.trail s.nest locks.1 siblings s.tasks s.ended, locks.0)

-- by an item that begins at this cell; one that begins outside of its object names none
abbrev pub siding_where : Limits → ℕ → Depends → MachineState × List ℕ → Result Span Reason → Result (MachineState × List ℕ) Reason
siding_where l site mode p (Ok c) = siding_at l site mode (cell c.object c.index) p
siding_where l site mode p (Err Outside) = Ok p
siding_where l site mode p (Err r) = Err r

-- by an item
unfoldable pub siding : Limits → ℕ → Item → MachineState × List ℕ → Result (MachineState × List ℕ) Reason
siding l site i p = do
  place ← slot_read p.0.slots i.slot
  siding_where l site i.mode p (span_at p.0.memory place 1)

-- it begins with locks of its items alone
unfoldable pub holding_own : Limits → List ℕ → MachineState → SteppedState
holding_own l ns s = do
  locks ← holding l ns s.locks
  Ok (with_locks s locks)

-- a task begins that declares this, and holds these locks
unfoldable pub opening : Limits → ℕ → ℕ → ℕ → ℕ → List Use → Option ℕ → Bool → MachineState → List ℕ → SteppedState
opening l site first count back uses when answer s ns = do
  now ← is_undeferred s.slots when answer
  own ← apart l site now uses s.memory
  n ← frame_opened l (frame_here back own.0.1 s) s.nest
  slots ← enter l s.slots first count
  t ← holding_own l ns (state s.at slots own.1 s.trail n s.locks s.siblings s.tasks s.ended)
  beginning_task l site own.0.0 t

unfoldable pub tasking : Limits → ℕ → ℕ → ℕ → ℕ → List Item → Option ℕ → Bool → MachineState → SteppedState
tasking l site first count back items when answer s = do
  uses ← items_of l s.slots s.memory None s.siblings items
  sided ← each (siding l site) items (s, [])
  opening l site first count back uses when answer sided.0 sided.1

-- the parent of a task that was undeferred awaits it
unfoldable pub awaiting : Limits → Kept → MachineState → SteppedState
awaiting l kept_as.Call s = Err Broken
awaiting l kept_as.Deferred s = Ok s
awaiting l (kept_as.AtOnce site o) s = do
  trail ← note l site 0 (Awaits (Some (use_as Reads (cell o 0) ∷ []))) [] s.trail
  Ok (with_trail s trail)

-- a task goes on with the locks that it held
abbrev pub with_held_again : ℕ → MachineState → MachineState
with_held_again n s = with_locks s (with_held n s.locks)

unfoldable pub finishing : Limits → MachineState → SteppedState
finishing l s = do
  c ← frame_closed s.nest
  awaiting l c.0.kept (with_held_again c.0.held (state_resumed s c.0.back c.0.base c.0.task c.0.context c.1))

unfoldable pub waiting : Limits → ℕ → MachineState → SteppedState
waiting l site s = do
  trail ← note l site 0 (Awaits None) [] s.trail
  Ok (with_trail s trail)

unfoldable pub waiting_for : Limits → ℕ → List Item → MachineState → SteppedState
waiting_for l site items s = do
  uses ← items_of l s.slots s.memory (Some s.trail.task) s.siblings items
  trail ← note l site 0 (Awaits (Some uses)) [] s.trail
  Ok (with_trail s trail)

-- ---- regions

unfoldable pub grouping : Limits → List Folded → MachineState → SteppedState
grouping l items s = do
  parts ← reduced_parts l s.slots s.memory items
  n ← region_begun l (length s.trail.rows) parts s.nest
  Ok (state s.at s.slots s.memory s.trail n s.locks s.siblings s.tasks s.ended)

unfoldable pub leaving : Limits → ℕ → MachineState → SteppedState
leaving l site s = do
  g ← region_closed s.nest
  trail ← leaves l site g.0.0 g.0.1 s.trail
  Ok (state s.at s.slots s.memory trail g.1 s.locks s.siblings s.tasks s.ended)

unfoldable pub joining : Fold → ℕ → MachineState → SteppedState
joining fold r s = do
  place ← slot_read s.slots r
  span ← span_at s.memory place 1
  if joins fold span s.nest then Ok s else Err NoGroup

-- ---- contexts

unfoldable pub turning : Limits → ℕ → ℕ → MachineState → SteppedState
turning l site r s = do
  x ← slot_read s.slots r
  trail ← enters l site (turn_of x) s.trail
  Ok (with_trail s trail)

unfoldable pub going_back : Limits → ℕ → MachineState → SteppedState
going_back l r s = do
  x ← slot_read s.slots r
  n ← number_or Broken x
  trail ← within l n s.trail
  Ok (with_trail s trail)

abbrev pub stopping : MachineState → MachineState
stopping s = state s.at s.slots s.memory s.trail s.nest s.locks s.siblings s.tasks true

-- ---- all forms; the answer is that to the question that one asks

unfoldable pub step : Code → Limits → Form → Bool → MachineState → SteppedState
step code l (f.Number to n) answer s = putting to (Number n) s
step code l (f.Unknown to) answer s = putting to Unknown s
step code l (f.Copy to r) answer s = copying to r s
step code l (f.Address to o k) answer s = putting to (Pointer o k) s
step code l (f.Function to k) answer s = putting to (Function k) s
step code l (f.Operate to op kind one other) answer s = operating to op kind one other s
step code l (f.Convert to kind r) answer s = converting to kind r s
step code l (f.Advance to place r stride cells) answer s = advancing to place r stride cells s
step code l (f.Distance to one other stride) answer s = measuring to one other stride s
step code l (f.Begin to count name zero) answer s = object_begun l to count name zero s
step code l (f.Allocate to name r cells zero) answer s = allocating l to name r cells zero s
step code l (f.End site r) answer s = object_ended l site r s
step code l (f.Load site to r) answer s = loading code l site to r s
step code l (f.Store site r other) answer s = storing code l site r other s
step code l (f.LoadOwn site to r) answer s = loading_own to r s
step code l (f.StoreOwn site r other) answer s = storing_own l r other s
step code l (f.ReadRange site r other) answer s = reading_range l site r other s
step code l (f.WriteRange site r other) answer s = writing_range code l site r other s
step code l (f.Jump to) answer s = Ok (from to s)
step code l (f.Branch site r to) answer s = branching r to answer s
step code l (f.Repeat site r to) answer s = repeating r to s
step code l (f.Call site k first) answer s = calling code l site k first s
step code l (f.CallBy site r first) answer s = calling_by code l site r first s
step code l f.Return answer s = returning s
step code l (f.Task site first count siblings_behind items when) answer s = tasking l site first count siblings_behind items.items when answer s
step code l f.Finish answer s = finishing l s
step code l (f.Wait site) answer s = waiting l site s
step code l (f.WaitFor site items) answer s = waiting_for l site items.items s
step code l (f.Group site items) answer s = grouping l items.items s
step code l (f.Leave site) answer s = leaving l site s
step code l (f.Lock site r) answer s = locking l r s
step code l (f.Unlock site r) answer s = unlocking l r s
step code l (f.Joins site fold r) answer s = joining fold r s
step code l (f.Turn site r) answer s = turning l site r s
step code l (f.Context to) answer s = putting to (Number s.trail.context) s
step code l (f.Within r) answer s = going_back l r s
step code l f.Stop answer s = Ok (stopping s)
