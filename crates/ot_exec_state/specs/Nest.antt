-- The calls, tasks and regions that are open.
use Rattle.std.specs.Prelude.{ℕ, ◌+◌, ◌-◌, ◌++◌, ◌==◌, nat_lt, nat_le, Bool, ◌&&◌, List, [], ◌∷◌, length, drop, take, Option, Some, None, slice_get, if◌then◌else◌, Result, Ok, Err}
use Rattle.std.specs.List.{list_any}
use Rattle.ot_model.specs.Cells.{same_fold}
use Rattle.ot_model.specs.declared.fold.Fold.{Fold}
use Rattle.ot_exec_state.specs.Results.{◌>>=◌, found_or}
use Rattle.ot_exec_state.specs.declared.fault.Reason.{Reason}
use Rattle.ot_exec_state.specs.declared.fault.Reason.TheVariants.{Broken, TooDeep}
use Rattle.ot_exec_state.specs.declared.limits.Limits.{Limits}
use Rattle.ot_exec_state.specs.declared.memory.Span.{Span}
use Rattle.ot_exec_state.specs.declared.nest.Frame.{Frame}
use Rattle.ot_exec_state.specs.declared.nest.Group.{Group}
use Rattle.ot_exec_state.specs.declared.nest.Part.{Part}
use Rattle.ot_exec_state.specs.declared.nest.Kept.{Kept}

-- calls and tasks, regions, and the items of the regions' reductions, the innermost last
pub record Nest : Type 0 where
  pub frames : List Frame
  pub groups : List Group
  pub parts : List Part

abbrev pub nest : List Frame → List Group → List Part → Nest
nest frames groups parts = record { frames = frames; groups = groups; parts = parts }

-- what goes on where a call or a task ends: the form, the slots, the task, the context and its set of locks; how many regions were open;
-- and what ends
abbrev pub frame : ℕ → ℕ → ℕ → ℕ → ℕ → ℕ → Kept → Frame
frame back base task context held groups kept =
    record { back = back; base = base; task = task; context = context; held = held; groups = groups; kept = kept }

-- a region: how many events there were before it, and how many items
abbrev pub group : ℕ → ℕ → Group
group start parts = record { start = start; parts = parts }

abbrev pub part : Fold → Span → Part
part fold span = record { fold = fold; span = span }

abbrev pub last_item : {A : Type 0} → List A → Option A
last_item xs = slice_get xs (length xs - 1)

-- a call or a task begins
unfoldable pub frame_opened : Limits → Frame → Nest → Result Nest Reason
frame_opened l f n = if nat_lt (length n.frames) l.open then Ok (nest (n.frames ++ f ∷ []) n.groups n.parts) else Err TooDeep

-- it ends, with as many regions open as at its beginning
unfoldable pub frame_closed : Nest → Result (Frame × Nest) Reason
frame_closed n = do
  f ← found_or Broken (last_item n.frames)
  if f.groups == length n.groups then Ok (f, nest (take (length n.frames - 1) n.frames) n.groups n.parts) else Err Broken

-- a region begins behind so many events, with these items
unfoldable pub region_begun : Limits → ℕ → List Part → Nest → Result Nest Reason
region_begun l start ps n =
    if nat_lt (length n.groups) l.open && nat_le (length n.parts + length ps) l.items
    then Ok (nest n.frames (n.groups ++ group start (length n.parts) ∷ []) (n.parts ++ ps))
    else Err TooDeep

-- how many regions were open where what runs began
abbrev pub groups_before : Option Frame → ℕ
groups_before (Some f) = f.groups
groups_before None = 0

-- a region ends that what runs has begun: before it there were so many events, and its items are these
unfoldable pub region_closed : Nest → Result ((ℕ × List Part) × Nest) Reason
region_closed n = do
  g ← if nat_lt (groups_before (last_item n.frames)) (length n.groups) then found_or Broken (last_item n.groups) else Err Broken
  Ok ((g.start, drop g.parts n.parts), nest n.frames (take (length n.groups - 1) n.groups) (take g.parts n.parts))

-- whether the cell where this begins is one of an item, by this operation
abbrev pub is_part : Fold → Span → Part → Bool
is_part fold s p =
    same_fold p.fold fold && p.span.object == s.object && nat_le p.span.index s.index && nat_lt s.index p.span.end

unfoldable pub joins : Fold → Span → Nest → Bool
joins fold s n = list_any (is_part fold s) n.parts
