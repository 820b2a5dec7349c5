-- The regions of a job by their numbers, and what is left of it.
use Rattle.std.specs.Prelude.{ℕ, zero, suc, Bool, true, List, [], ◌∷◌, map, None}
use Rattle.ot_model.specs.Tree.{Body, End}
use Rattle.ot_model.specs.Serial.{State}
use Rattle.ot_job.specs.Left.{left_of_job}
use Rattle.ot_job_task.specs.Regions.{todo, Region}

-- no region
abbrev pub empty_region : Region
empty_region = record { parent = 0; child = 0; own = None; rest = End; groups = []; children = []; waiting = None; ended = true; running = None }

abbrev pub at : List Region → ℕ → Region
at [] i = empty_region
at (r ∷ rs) zero = r
at (r ∷ rs) (suc i) = at rs i

abbrev pub parent_of : List Region → ℕ → ℕ
parent_of rs i = (at rs i).parent

abbrev pub todo_at : List Region → ℕ → Body
todo_at rs i = todo (at rs i).rest (at rs i).groups

abbrev pub ended_at : List Region → ℕ → Bool
ended_at rs i = (at rs i).ended

-- the parents of all tasks but the root
abbrev pub parents : List Region → List ℕ
parents [] = []
parents (r ∷ rs) = map (λ x. x.parent) rs

-- what is left of the job, run serially
abbrev pub left_of : List Region → State → State
left_of rs s = left_of_job (todo_at rs) (parents rs) s
