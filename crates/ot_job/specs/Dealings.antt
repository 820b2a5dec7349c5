-- A live job.
use Rattle.std.specs.Prelude.{◌≡◌, ◌≢◌, ◌<◌, ◌≤◌, ◌⊎◌, ℕ, ◌+◌, ◌==◌, [], length, if◌then◌else◌, Option, Some, None, option_map, ◌∷◌, Bool, true, false, List, is_some, IsPermutation}
use Rattle.ot_model.specs.Tree.{E, Body}
use Rattle.ot_model.specs.Programs.{expanded_of, Expanded}
use Rattle.ot_check.specs.Jobs.{Spec}
use Rattle.ot_owner.specs.Lending.{Lease, lease_of}
use Rattle.ot_job_task.specs.Regions.{Region, Run, weight_of as weight_in, root_region, region_stopped}
use Rattle.ot_job.specs.Numbered.{at}
use Rattle.ot_job_task.specs.Pieces.{test_of}
use Rattle.ot_job.specs.Taken.{Taken, Came, IsOut, worker_in}
use Rattle.ot_job.specs.Left.{out_in}
use Rattle.ot_job.specs.declared.state.State.{State}
use Rattle.ot_job.specs.declared.state.State.TheVariants.{Working, Failing, Ended, Failed}
use Rattle.std.specs.List.{list_any, list_all}
use Rattle.ot_model.specs.Cells.{updated}
use Rattle.ot_owner.specs.Owning.{loan_of, Owned}
use Rattle.ot_job.specs.Claiming.{claimable_of}
use Rattle.ot_model.specs.declared.plain.Counts.{Counts}

-- its program and the cells that it began with; its cells and what is lent of them; its task regions in order of their
-- creation; what it has executed; whether it fails
pub record Live : Type 0 where
  pub program : Expanded
  pub before : List (List ℕ)
  pub cells : List (List ℕ)
  pub owned : Owned
  pub regions : List Region
  pub counts : Counts
  pub failing : Bool

-- How a job begins, where it stands, and how it fails.

-- a job that has the whole program left, its cells as they were handed in, no piece out, and no group open
pub record Starts (spec : Spec) (j : Live) : Type 0 where
  pub program : j.program ≡ expanded_of spec.checked.program
  pub before : j.before ≡ spec.before
  pub cells : j.cells ≡ spec.before
  pub out : j.owned.out ≡ []
  pub groups : j.owned.groups ≡ []
  pub regions : j.regions ≡ root_region (expanded_of spec.checked.program).body ∷ []
  pub tasks : j.counts.tasks ≡ 0
  pub units : j.counts.units ≡ 0
  pub working : j.failing ≡ false

-- whether a piece of some task is out
abbrev pub any_out : List Region → Bool
any_out rs = list_any (λ r. is_some r.running) rs

-- whether each task has ended its body
abbrev pub all_ended : List Region → Bool
all_ended rs = list_all (λ r. r.ended) rs

abbrev pub state_in : Live → State
state_in j =
    if j.failing then (if any_out j.regions then Failing else Failed)
    else if all_ended j.regions then Ended
    else Working

-- none is claimable in a job that fails
abbrev pub claimable_in : Live → List ℕ
claimable_in j = if j.failing then [] else claimable_of j.regions

abbrev pub job_aborted : Live → Live
job_aborted j = record j { failing = true }

-- a piece comes back without results: its rights end, no copy changes, and the job fails
pub record FailsBy (old : Live) (d : Came) (new : Live) : Type 0 where
  pub out : IsOut old.regions d
  pub ended : IsPermutation old.owned.out (loan_of (worker_in (at old.regions d.task)) d.lent ∷ new.owned.out)
  pub groups : new.owned.groups ≡ old.owned.groups
  pub going : ((state_in old ≡ Working) × (out_in old.regions ≤ weight_in old.regions)) ⊎ (state_in old ≡ Failing)
  pub now : new ≡ record old { regions = updated old.regions d.task region_stopped; owned = new.owned; failing = true }

-- a piece that isn't out changes nothing
abbrev pub Fails : Live → Came → Live → Type 0
Fails old d new = FailsBy old d new ⊎ ((IsOut old.regions d → ⊥) × (new ≡ old))

-- A job as whoever deals with it sees it.

-- a piece that is out: its assigns, the condition behind them, and what it holds
pub record Work : Type 0 where
  pub assigns : Body
  pub test : Option E
  pub lease : Lease

abbrev pub work_of : Taken → Work
work_of p = record { assigns = p.assigns; test = p.test; lease = lease_of p.lent }

abbrev pub work_brought : Came → Work
work_brought d = record { assigns = d.assigns; test = d.test; lease = lease_of d.lent }

abbrev pub run_with : Option E → Run → Work
run_with test run = record { assigns = run.assigns; test = test; lease = run.lease }

abbrev pub work_in : Region → Option Work
work_in r = option_map (run_with (test_of r.rest)) r.running

-- the piece of this task that is out
abbrev pub work_at : Live → ℕ → Option Work
work_at j k = work_in (at j.regions k)

-- no piece is out
abbrev pub NoneOut : Live → Type 0
NoneOut j = (k : ℕ) → work_at j k ≡ None

-- how many pieces are out
abbrev pub out_of : Live → ℕ
out_of j = out_in j.regions

abbrev pub live_state : Live → State
live_state j = state_in j

-- how many settles it may still take
abbrev pub settles_left : Live → ℕ
settles_left j = weight_in j.regions

-- the units that were settled
abbrev pub settled_units : Live → ℕ
settled_units j = j.counts.units

abbrev pub IsOver : State → Type 0
IsOver Working = ⊥
IsOver Failing = ⊥
IsOver Ended = Unit {0}
IsOver Failed = Unit {0}

abbrev pub after_failure : ℕ → State
after_failure n = if n == 0 then Failed else Failing

-- the same program and cells
pub record SameSpec (old new : Live) : Type 0 where
  pub program : new.program ≡ old.program
  pub before : new.before ≡ old.before

-- the job has this spec
pub record IsOf (spec : Spec) (j : Live) : Type 0 where
  pub program : expanded_of spec.checked.program ≡ j.program
  pub before : spec.before ≡ j.before

-- a job that was started
pub record IsFresh (spec : Spec) (j : Live) : Type 0 where
  pub of : IsOf spec j
  pub working : live_state j ≡ Working
  pub none : NoneOut j
  pub out : out_of j ≡ 0
  pub weight : settles_left j ≤ 61025
  pub units : settled_units j ≡ 0

-- the task has this piece out, and no other task's piece changes
pub record Takes (old : Live) (task : ℕ) (work : Work) (new : Live) : Type 0 where
  pub free : work_at old task ≡ None
  pub taken : work_at new task ≡ Some work
  pub others : (k : ℕ) → k ≢ task → work_at new k ≡ work_at old k
  pub out : out_of new ≡ out_of old + 1
  pub weight : settles_left new ≡ settles_left old
  pub units : settled_units new ≡ settled_units old
  pub working : live_state old ≡ Working
  pub state : live_state new ≡ live_state old
  pub same : SameSpec old new

-- the task has its piece no longer out
pub record Returns (old : Live) (task : ℕ) (work : Work) (new : Live) : Type 0 where
  pub was : work_at old task ≡ Some work
  pub free : work_at new task ≡ None
  pub others : (k : ℕ) → k ≢ task → work_at new k ≡ work_at old k
  pub out : out_of new + 1 ≡ out_of old
  pub same : SameSpec old new

-- a claim
abbrev pub Gives : Live → Option Taken → Live → Type 0
Gives old None new = (claimable_in old ≡ []) × (new ≡ old)
Gives old (Some p) new = (0 < length (claimable_in old)) × Takes old p.task (work_of p) new

-- a settle of so many units
pub record Pays (old : Live) (d : Came) (n : ℕ) (new : Live) : Type 0 where
  pub returns : Returns old d.task (work_brought d) new
  pub working : live_state old ≡ Working
  pub after : (live_state new ≡ Working) ⊎ (live_state new ≡ Ended)
  pub weight : settles_left new < settles_left old
  pub units : settled_units new ≡ settled_units old + n
  pub few : settled_units new ≤ 20000

-- a piece that is out fails its job
pub record Breaks (old : Live) (d : Came) (new : Live) : Type 0 where
  pub returns : Returns old d.task (work_brought d) new
  pub state : live_state new ≡ after_failure (out_of new)
  pub going : ((live_state old ≡ Working) × (out_of old ≤ settles_left old)) ⊎ (live_state old ≡ Failing)
  pub units : settled_units new ≡ settled_units old

pub record Aborts (old new : Live) : Type 0 where
  pub state : live_state new ≡ after_failure (out_of new)
  pub works : (k : ℕ) → work_at new k ≡ work_at old k
  pub out : out_of new ≡ out_of old
  pub units : settled_units new ≡ settled_units old
  pub same : SameSpec old new
