-- The open groups of a job's tasks, and the copies that are kept of their cells.
use Rattle.std.specs.Prelude.{◌≡◌, ◌↔◌, ℕ, List, [], ◌∷◌, ◌++◌, map, replicate, Option, Some, None, Contains, IsPermutation}
use Rattle.ot_model.specs.declared.expr.Cell.{Cell}
use Rattle.ot_model.specs.declared.fold.Fold.{Fold as Operation}
use Rattle.ot_model.specs.declared.stmt.Use.{Use}
use Rattle.ot_check.specs.Offences.{has_cell}
use Rattle.ot_owner.specs.Owning.{Summed, names, IsNamed}
use Rattle.ot_job_task.specs.Regions.{Open, Region}
use Rattle.ot_job.specs.Numbered.{at}

-- the numbers of all open groups
abbrev pub open_group_numbers : List Region → List ℕ
open_group_numbers [] = []
open_group_numbers (r ∷ rs) = map (λ o. o.group) r.groups ++ open_group_numbers rs

-- copies are kept by the operation of the open group, and of the cells that it names
abbrev pub IsFor : Open → Summed → Type 0
IsFor o g = (g.op ≡ o.op) × ((c : Cell) → names c g ≡ has_cell o.cells c)

-- copies are kept for each open group of a task and for no other
pub record AreOpen (rs : List Region) (gs : List Summed) : Type 0 where
  pub numbers : IsPermutation (map (λ g. g.group) gs) (open_group_numbers rs)
  pub same : (i : ℕ) (o : Open) (g : Summed) → Contains (at rs i).groups o → Contains gs g → g.group ≡ o.group → IsFor o g

-- the room is for the operation of the group that comes next, and names its cells; there is one where one comes next
abbrev pub IsRoomFor : Option (Operation × List Cell) → Option (Operation × List Use) → Type 0
IsRoomFor None None = Unit {0}
IsRoomFor None (Some room) = ⊥
IsRoomFor (Some group) None = ⊥
IsRoomFor (Some group) (Some room) = (room.0 ≡ group.0) × ((c : Cell) → IsNamed room.1 c ↔ Contains group.1 c)

-- the group that is opened under this number, if there is room for one
abbrev pub opened_under : ℕ → Option (Operation × List Use) → List Summed
opened_under number None = []
opened_under number (Some room) = record { group = number; op = room.0; uses = room.1; rows = replicate 17 None } ∷ []
