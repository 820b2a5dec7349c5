-- Objects and their cells: the members of all objects stand in one list. An object's number is never given again.
use Rattle.std.specs.Prelude.{ℕ, ◌+◌, ◌-◌, ◌++◌, ◌==◌, nat_lt, nat_le, Bool, true, false, ◌&&◌, List, [], ◌∷◌, length, replicate, take, drop, map, slice_get, slice_set, if◌then◌else◌, Result, Ok, Err}
use Rattle.std.specs.List.{range_with_len}
use Rattle.ot_model.specs.declared.expr.Cell.{Cell}
use Rattle.ot_model.specs.declared.stmt.Mode.{Mode}
use Rattle.ot_model.specs.declared.stmt.Use.{Use}
use Rattle.ot_parts.specs.Modes.{use_as}
use Rattle.ot_exec_state.specs.Results.{◌>>=◌, found_or}
use Rattle.ot_exec_state.specs.declared.fault.Reason.{Reason}
use Rattle.ot_exec_state.specs.declared.fault.Reason.TheVariants.{Broken, Null, NoPlace, Outside, Ended, TooMuch}
use Rattle.ot_exec_state.specs.declared.limits.Limits.{Limits}
use Rattle.ot_exec_state.specs.declared.memory.Object.{Object}
use Rattle.ot_exec_state.specs.declared.memory.Span.{Span}
use Rattle.ot_exec_state.specs.declared.value.Value.{Value}
use Rattle.ot_exec_state.specs.declared.value.Value.TheVariants.{Number, Pointer, Within, Function, Unknown}

pub record Memory : Type 0 where
  pub objects : List Object
  pub members : List Value

abbrev pub memory : List Object → List Value → Memory
memory objects members = record { objects = objects; members = members }

-- its members begin there, it has so many, it may have ended, and this number names it
abbrev pub object : ℕ → ℕ → Bool → ℕ → Object
object start length ended name = record { start = start; length = length; ended = ended; name = name }

-- cells of one object, whose members begin there: from an index up to another
abbrev pub span : ℕ → ℕ → ℕ → ℕ → Span
span object start index end = record { object = object; start = start; index = index; end = end }

abbrev pub count_of : Span → ℕ
count_of s = s.end - s.index

abbrev pub cell : ℕ → ℕ → Cell
cell object index = record { array = object; index = index }

-- they are used so
abbrev pub uses_of : Mode → Span → List Use
uses_of mode s = map (λ k. use_as mode (cell s.object k)) (range_with_len s.index (count_of s))

-- ---- where a value points to

-- the object at which it lies
unfoldable pub object_of : Value → Result ℕ Reason
object_of (Pointer o k) = Ok o
object_of (Within o f n) = Ok o
object_of (Number n) = Err (if n == 0 then Null else NoPlace)
object_of (Function f) = Err NoPlace
object_of Unknown = Err NoPlace

-- which may not have ended
unfoldable pub alive : Memory → ℕ → Result Object Reason
alive m o = do
  x ← found_or Broken (slice_get m.objects o)
  if x.ended then Err Ended else Ok x

unfoldable pub inside : Memory → ℕ → ℕ → ℕ → Result Span Reason
inside m o k count = do
  x ← alive m o
  if nat_le (k + count) x.length then Ok (span o x.start k (k + count)) else Err Outside

unfoldable pub whole_object : Memory → Value → Result Span Reason
whole_object m v = do
  o ← object_of v
  x ← alive m o
  Ok (span o x.start 0 x.length)

-- so many cells from one on, where the object has them, and else all of its cells
unfoldable pub span_among : Memory → ℕ → ℕ → ℕ → Result Span Reason
span_among m o f n = do
  x ← alive m o
  if nat_lt 0 n && nat_le (f + n) x.length then Ok (span o x.start f (f + n)) else Ok (span o x.start 0 x.length)

-- so many cells from there on; where the index isn't known they are all cells among which it is
unfoldable pub span_of : Memory → Value → ℕ → Result Span Reason
span_of m (Pointer o k) count = inside m o k count
span_of m (Within o f n) count = span_among m o f n
span_of m v count = whole_object m v

-- the same of a place that is known
unfoldable pub span_at : Memory → Value → ℕ → Result Span Reason
span_at m (Within o f n) count = Err NoPlace
span_at m v count = span_of m v count

-- ---- what happens to it

-- the value that is read there
unfoldable pub value_taken : Memory → Value → Span → Result Value Reason
value_taken m (Pointer o k) s = found_or Broken (slice_get m.members (s.start + s.index))
value_taken m v s = Ok Unknown

-- what is kept there of a value that is written: nothing where the place isn't known
abbrev pub kept_value : Value → Value → Value
kept_value (Pointer o k) x = x
kept_value place x = Unknown

-- each cell of these has this value
unfoldable pub cells_filled : Memory → Span → Value → Result Memory Reason
cells_filled m s x =
    if nat_le s.index s.end && nat_le (s.start + s.end) (length m.members)
    then Ok (memory m.objects (take (s.start + s.index) m.members ++ replicate (count_of s) x ++ drop (s.start + s.end) m.members))
    else Err Broken

-- a new object of so many cells with this value
unfoldable pub object_new : Limits → ℕ → Value → ℕ → Memory → Result (ℕ × Memory) Reason
object_new l count x name m =
    if nat_lt (length m.objects) l.objects && nat_le (length m.members + count) l.members
    then Ok (length m.objects, memory (m.objects ++ object (length m.members) count false name ∷ []) (m.members ++ replicate count x))
    else Err TooMuch

-- an object ends: all its cells
unfoldable pub object_finished : Memory → Value → Result (Span × Memory) Reason
object_finished m v = do
  o ← object_of v
  x ← alive m o
  Ok (span o x.start 0 x.length, memory (slice_set m.objects o (object x.start x.length true x.name)) m.members)
