-- What orders tasks, and what they touch: in the language all that they declare, and what they fold into; in C their `depend` clauses
-- alone, and no cell that they fold into.
use Rattle.std.specs.Prelude.{Bool, true, false, List, map, filter, not, ◌||◌}
use Rattle.std.specs.List.{list_any}
use Rattle.ot_model.specs.Tree.{S, Set, Fold, If, Task, Wait, Group, Body, End, Next}
use Rattle.ot_model.specs.Cells.{is_fold}
use Rattle.ot_model.specs.declared.stmt.Use.{Use}
use Rattle.ot_race.specs.Events.{Deed, Touches, Begins, Awaits, Leaves, Event, event}
use Rattle.ot_race_order.specs.declared.order.Order.{Order}
use Rattle.ot_race_order.specs.declared.order.Order.TheVariants.{OfLanguage, OfC, OfCByPointers}

-- what of a declaration makes dependences in C: `in_reduction` makes none (OpenMP API 5.2, sections 5.5.10 and 15.9.5)
abbrev pub depend_of : List Use → List Use
depend_of uses = filter (λ u. not (is_fold u.mode)) uses

-- what of its uses an event touches in C: a fold is into the task's copy, and the cell itself is written at the group's end
-- (section 5.5.5)
abbrev pub touched_of : List Use → List Use
touched_of uses = filter (λ u. not (is_fold u.mode)) uses

-- an event as C takes it: a task declares what makes dependences
abbrev pub deed_in_c : Deed → Deed
deed_in_c Touches = Touches
deed_in_c (Begins parent wants) = Begins parent (depend_of wants)
deed_in_c (Awaits w) = Awaits w
deed_in_c (Leaves count) = Leaves count

abbrev pub event_in_c : Event → Event
event_in_c e = event e.task e.place (deed_in_c e.deed) (touched_of e.uses)

-- the same where tasks take part in reductions by pointers: `red` stands for their `depend(in: ..)`, so they declare all
abbrev pub event_by_pointers : Event → Event
event_by_pointers e = event e.task e.place e.deed (touched_of e.uses)

-- the events of a run where this orders its tasks, with what they touch
abbrev pub ordered_by : Order → List Event → List Event
ordered_by OfLanguage es = es
ordered_by OfC es = map event_in_c es
ordered_by OfCByPointers es = map event_by_pointers es

-- ---- where both order tasks alike

abbrev pub has_fold : List Use → Bool
has_fold uses = list_any (λ u. is_fold u.mode) uses

-- whether a task of a statement, of a body, declares a fold
abbrev mutual
  pub folds_in_one : S → Bool
  folds_in_one (Set c e) = false
  folds_in_one (Fold o c e) = false
  folds_in_one (If e a b) = folds_in a || folds_in b
  folds_in_one (Task d b) = has_fold d || folds_in b
  folds_in_one (Wait w) = false
  folds_in_one (Group o cs b) = folds_in b

  pub folds_in : Body → Bool
  folds_in End = false
  folds_in (Next x rest) = folds_in_one x || folds_in rest

-- whether this orders the tasks of a body as the language does: where none declares a fold C does too
abbrev pub is_alike : Order → Body → Bool
is_alike OfLanguage body = true
is_alike OfC body = not (folds_in body)
is_alike OfCByPointers body = true
