-- What is left of a job, run serially.
use Rattle.std.specs.Prelude.{ℕ, ◌+◌, List, [], ◌∷◌, ◌==◌, if◌then◌else◌, is_some, count_by}
use Rattle.ot_model.specs.Tree.{Body}
use Rattle.ot_model.specs.Serial.{State, serial}
use Rattle.ot_job_task.specs.Regions.{Region}

-- what is left of the children of the task p among the tasks k, k + 1, .., whose parents are listed, in order of
-- creation: of each child what is left of its own children, and then its remaining statements
abbrev pub children_left : (ℕ → Body) → ℕ → ℕ → List ℕ → State → State
children_left todo p k [] s = s
children_left todo p k (q ∷ qs) s =
    children_left todo p (k + 1) qs (if q == p then serial (todo k) (children_left todo k (k + 1) qs s) else s)

-- what is left of the job: of the root's children, and then of the root
abbrev pub left_of_job : (ℕ → Body) → List ℕ → State → State
left_of_job todo parents s = serial (todo 0) (children_left todo 0 1 parents s)

-- How many pieces of a job are out.

-- how many have a piece out
abbrev pub out_in : List Region → ℕ
out_in rs = count_by (λ r. is_some r.running) rs
