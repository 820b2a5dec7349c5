-- Where a task stands: what is left of the innermost open group's body, and what stands behind the ends of the open groups.
use Rattle.std.specs.Prelude.{ℕ, zero, suc, ◌++◌, Bool, true, false, if◌then◌else◌, List, [], ◌∷◌, map, length, Option, Some, None, ◌==◌, ◌&&◌, not, count_by, ◌+◌, is_some}
use Rattle.ot_model.specs.Tree.{If, Task, Wait, Group, Body, End, Next, append}
use Rattle.ot_model.specs.Cells.{updated}
use Rattle.ot_model.specs.declared.stmt.Use.{Use}
use Rattle.ot_model.specs.declared.expr.Cell.{Cell}
use Rattle.ot_model.specs.declared.fold.Fold.{Fold as Operation}
use Rattle.ot_depend.specs.Siblings.{Sibling, sibling_created, with_finished, is_unfinished, is_unfinished_in}
use Rattle.ot_check.specs.Offences.{Declared, awaits}
use Rattle.ot_owner.specs.Lending.{Lease}
use Rattle.std.specs.List.{list_any}
-- how many settles a statement may still take, and a body
pub use Rattle.ot_parts.specs.Parts.{weight_one, weight}

-- an open group: its number, the operation and the cells of its reduction, and what stands behind its end
pub record Open : Type 0 where
  pub group : ℕ
  pub op : Operation
  pub cells : List Cell
  pub behind : Body

-- the number of the innermost open group, which comes first
abbrev pub innermost : List Open → Option ℕ
innermost [] = None
innermost (o ∷ os) = Some o.group

-- what is left, the innermost open group first
abbrev pub todo : Body → List Open → Body
todo rest [] = rest
todo rest (o ∷ os) = append rest (todo o.behind os)

-- Task regions, and what the execution of a control statement makes of them.

-- a piece that is out: the worker that has it, its assigns, and what it holds
pub record Run : Type 0 where
  pub worker : ℕ
  pub assigns : Body
  pub lease : Lease

-- a wait at which a task stands, if it does: what that wait declares, if it does (OpenMP API 5.2, section 15.5)
abbrev pub Waiting : Type 0
Waiting = Option (Option (List Use))

-- a task region (OpenMP API 5.2, section 12.5): its parent, and its number among the parent's children; what it declares;
-- what is left in the innermost open group's body, and the open groups, the innermost first; its children; the wait
-- that it has executed and has not gone on from; whether its body has ended
pub record Region : Type 0 where
  pub parent : ℕ
  pub child : ℕ
  pub own : Declared
  pub rest : Body
  pub groups : List Open
  pub children : List Sibling
  pub waiting : Waiting
  pub ended : Bool
  pub running : Option Run

-- the root task at the beginning of the program's body
abbrev pub root_region : Body → Region
root_region body = record { parent = 0; child = 0; own = None; rest = body; groups = []; children = []; waiting = None; ended = false; running = None }

-- a child as it is created
abbrev pub new_region : ℕ → ℕ → List Use → Body → Region
new_region parent child uses body =
    record { parent = parent; child = child; own = Some uses; rest = body; groups = []; children = []; waiting = None; ended = false; running = None }

-- with a child more, created in the open groups
abbrev pub with_child : List Use → Region → Region
with_child uses r = record r { children = r.children ++ sibling_created uses (map (λ o. o.group) r.groups) ∷ [] }

-- inside a group
abbrev pub inside : ℕ → Operation → List Cell → Body → Region → Region
inside g op cells body r = record r { rest = body; groups = record { group = g; op = op; cells = cells; behind = r.rest } ∷ r.groups }

-- no piece of it is out
abbrev pub region_stopped : Region → Region
region_stopped r = record r { running = None }

-- its body has ended
abbrev pub over : Region → Region
over r = record r { ended = true }

-- this child of it has finished
abbrev pub without : ℕ → Region → Region
without child r = record r { children = with_finished r.children child }

-- what is left of it
abbrev pub with_rest : Body → Region → Region
with_rest rest r = record r { rest = rest }

abbrev pub rest_at : List Region → ℕ → Body
rest_at [] i = End
rest_at (r ∷ rs) zero = r.rest
rest_at (r ∷ rs) (suc i) = rest_at rs i

abbrev pub children_at : List Region → ℕ → ℕ
children_at [] i = 0
children_at (r ∷ rs) zero = length r.children
children_at (r ∷ rs) (suc i) = children_at rs i

-- The region once it has executed the control statement that comes next: an `if` whose condition holds or not, a group under
-- this number, a wait, a task, which is created beside it
abbrev pub stepped_from : Bool → ℕ → Body → Region → Region
stepped_from taken g (Next (Wait w) rest) r = record r { rest = rest; waiting = Some w }
stepped_from taken g (Next (If e a b) rest) r = with_rest (append (if taken then a else b) rest) r
stepped_from taken g (Next (Group o cs b) rest) r = inside g o cs b (with_rest rest r)
stepped_from taken g (Next (Task d b) rest) r = with_rest rest r
stepped_from taken g rest r = r

abbrev pub region_stepped : Bool → ℕ → Region → Region
region_stepped taken g r = stepped_from taken g r.rest r

-- the task that comes next
abbrev pub next_task : Body → Option (List Use × Body)
next_task (Next (Task d b) rest) = Some (d, b)
next_task rest = None

-- the operation and the cells of the group that comes next
abbrev pub group_next : Body → Option (Operation × List Cell)
group_next (Next (Group o cs b) rest) = Some (o, cs)
group_next rest = None

-- the child that this creates of a task, whose own number is i
abbrev pub child_of : ℕ → Region → List Use × Body → Region
child_of i r child = new_region i (length r.children) child.0 child.1

-- with the child noted that is to be
abbrev pub with_noted : Option (List Use × Body) → Region → Region
with_noted None r = r
with_noted (Some child) r = with_child child.0 r

-- whether a statement comes next, which behind a piece is a control statement
abbrev pub is_control : Body → Bool
is_control End = false
is_control (Next x rest) = true

-- how many tasks the statement that comes next creates
abbrev pub tasks_next : Body → ℕ
tasks_next (Next (Task d b) rest) = 1
tasks_next rest = 0

-- with a task created that is to be, as a child of task i
abbrev pub with_created : ℕ → Option (List Use × Body) → List Region → List Region
with_created i None rs = rs
with_created i (Some child) rs = updated rs i (with_child child.0) ++ new_region i (children_at rs i) child.0 child.1 ∷ []

-- the regions once task i has executed the control statement that comes next
abbrev pub control_executed : Bool → ℕ → ℕ → List Region → List Region
control_executed taken g i rs = with_created i (next_task (rest_at rs i)) (updated rs i (region_stepped taken g))

-- What holds a task that has no piece out.

-- whether a group's end that is reached lets the task go on
abbrev pub end_lets_go : Body → List Open → List Sibling → Bool
end_lets_go End (o ∷ os) children = count_by (is_unfinished_in o.group) children == 0
end_lets_go rest os children = true

-- whether the wait at which a task stands awaits the child
abbrev pub is_awaited_at : Waiting → Sibling → Bool
is_awaited_at None s = false
is_awaited_at (Some w) s = awaits w s.uses

-- whether that wait holds the task: one of those that it awaits has not finished (OpenMP API 5.2, section 15.5)
abbrev pub is_held : Waiting → List Sibling → Bool
is_held waiting children = list_any (λ s. is_unfinished s && is_awaited_at waiting s) children

-- whether neither a wait nor a group's end holds the task
abbrev pub is_let_go : Region → Bool
is_let_go r = not (is_held r.waiting r.children) && end_lets_go r.rest r.groups r.children

-- How many settles a job may still take.

-- of the ends of the open groups, and what stands behind them
abbrev pub weight_behind : List Open → ℕ
weight_behind [] = 0
weight_behind (o ∷ os) = 1 + weight o.behind + weight_behind os

-- of what a task has left, with a piece of it out or not: without one a group's end that is reached is passed for nothing
abbrev pub weight_left : Bool → Body → List Open → ℕ
weight_left false End (o ∷ os) = weight o.behind + weight_behind os
weight_left out rest os = weight rest + weight_behind os

-- a task that has not ended has a last piece
abbrev pub region_weight : Region → ℕ
region_weight r = if r.ended then 0 else 1 + weight_left (is_some r.running) r.rest r.groups

abbrev pub weight_of : List Region → ℕ
weight_of [] = 0
weight_of (r ∷ rs) = region_weight r + weight_of rs
