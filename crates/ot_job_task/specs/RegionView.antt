-- Where a task stands, as the code says it: its list of groups ends with the innermost.
use Rattle.std.specs.Prelude.{List, Some, None, map, option_map, reverse}
use Rattle.std.specs.Arc.{arc_value}
use Rattle.ot_depend.specs.Siblings.{Sibling, AreFree}
use Rattle.ot_job_task.specs.Regions.{Region, Waiting, Open}
use Rattle.ot_job_task.specs.declared.waiting.Waiting.{Waiting as Wait}
use Rattle.ot_job_task.specs.declared.waiting.Waiting.TheVariants.{Nowhere, ForAll, For}
use Rattle.ot_job_task.specs.declared.task.Task.TheInside.{Inside}
use Rattle.ot_job_task.specs.Pieces.{Standing}
use Rattle.ot_job_task.specs.declared.place.OpenGroup.{OpenGroup}
use Rattle.ot_job_task.specs.declared.place.Place.{Place}

abbrev pub open_of : OpenGroup → Open
open_of o = record { group = o.group; op = o.op; cells = o.cells.items; behind = o.behind }

abbrev pub standing_of : Place → Standing
standing_of p = record { rest = p.rest; groups = reverse (map open_of p.groups.items) }

-- The region that a task's fields stand for.

-- the wait at which it stands
abbrev pub waiting_of : Wait → Waiting
waiting_of Nowhere = None
waiting_of ForAll = Some None
waiting_of (For uses free) = Some (Some uses)

-- it awaits none of the children at so many of the first cells as it keeps
abbrev pub KnowsFree : Wait → List Sibling → Type 0
KnowsFree Nowhere children = Unit {0}
KnowsFree ForAll children = Unit {0}
KnowsFree (For uses free) children = AreFree children uses free

abbrev pub region_of : Inside → Region
region_of t = record {
  parent = t.parent;
  child = t.child;
  own = option_map arc_value t.decl;
  rest = (standing_of t.place).rest;
  groups = (standing_of t.place).groups;
  children = t.children;
  waiting = waiting_of t.waiting;
  ended = t.ended;
  running = t.running;
}
