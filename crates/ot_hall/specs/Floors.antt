-- Where each tenant's job lies.
use Rattle.std.specs.Prelude.{◌≡◌, [], ◌+◌, ◌⊎◌, ℕ, List, replicate, Option, Some, None, slice_get, slice_set, slice_index_or, nat_lt, Bool, false, length}
use Rattle.std.specs.List.{sum_by}
use Rattle.ot_check.specs.Jobs.{Spec, IsMeaning}
use Rattle.ot_job.specs.Dealings.{Live, Starts, Fails as HasFailed, claimable_in, job_aborted, IsOf, IsOver, NoneOut, live_state}
use Rattle.ot_job.specs.Moves.{Claimed, Settles as HasSettled, Refuses}
use Rattle.ot_job.specs.Taken.{Taken as Piece, Came as Done}
use Rattle.ot_job.specs.declared.piece.Refused.{Refused}
use Rattle.ot_job.specs.declared.piece.Refused.TheVariants.{Stranger}
use Rattle.ot_job.specs.declared.state.State.TheVariants as state
use Rattle.ot_hall.specs.declared.hall.Collected.{Collected}
use Rattle.ot_hall.specs.declared.hall.Collected.TheVariants as collected

-- the tenant's job
abbrev pub job_of : List (Option Live) → ℕ → Option Live
job_of jobs tenant = slice_index_or jobs tenant None

-- whether the tenant of this job has a claimable task
abbrev pub has_claimable : Option Live → Bool
has_claimable None = false
has_claimable (Some j) = nat_lt 0 (length (claimable_in j))

-- The live jobs of all tenants, and the units that were settled for each.

pub record Floor : Type 0 where
  pub jobs : List (Option Live)
  pub units : List ℕ

-- the units settled for a tenant
abbrev pub tenant_units : Floor → ℕ → ℕ
tenant_units f t = slice_index_or f.units t 0

-- the units settled for all
abbrev pub total_of : Floor → ℕ
total_of f = sum_by (λ u. u) f.units

-- nobody has a job, and nothing was settled
abbrev pub new_floor : ℕ → Floor
new_floor n = record { jobs = replicate n None; units = replicate n 0 }

-- with another job of one tenant
abbrev pub with_job : Floor → ℕ → Option Live → Floor
with_job f t job = record { jobs = slice_set f.jobs t job; units = f.units }

-- and with more units of it
abbrev pub with_settled : Floor → ℕ → Live → ℕ → Floor
with_settled f t job n = record { jobs = slice_set f.jobs t (Some job); units = slice_set f.units t (tenant_units f t + n) }

-- there is such a tenant, and it has no job
abbrev pub IsFree : Floor → ℕ → Type 0
IsFree f t = slice_get f.jobs t ≡ Some None

-- the tenant has a job of this spec that begins
pub record SubmitsFor (old : Floor) (t : ℕ) (spec : Spec) (new : Floor) : Type 0 where
  pub free : IsFree old t
  pub job : Live
  pub starts : Starts spec job
  pub new_is : new ≡ with_job old t (Some job)

-- the tenant, which had no job, has this one
pub record EntersFor (old : Floor) (t : ℕ) (job : Live) (new : Floor) : Type 0 where
  pub free : IsFree old t
  pub new_is : new ≡ with_job old t (Some job)

-- the tenant has no claimable task
abbrev pub NothingAt : List (Option Live) → ℕ → Type 0
NothingAt jobs t = (j : Live) → job_of jobs t ≡ Some j → claimable_in j ≡ []

-- a piece of the tenant's job is claimed by the worker
pub record ClaimsFor (old : Floor) (t pick worker : ℕ) (piece : Piece) (new : Floor) : Type 0 where
  pub job : Live
  pub is : job_of old.jobs t ≡ Some job
  pub next : Live
  pub claimed : Claimed job pick worker (Some piece) next
  pub new_is : new ≡ with_job old t (Some next)

abbrev pub ClaimsOf : Floor → ℕ → ℕ → ℕ → Option Piece → Floor → Type 0
ClaimsOf old t pick worker None new = NothingAt old.jobs t × (new ≡ old)
ClaimsOf old t pick worker (Some piece) new = ClaimsFor old t pick worker piece new

-- the tenant's job works
pub record IsWorking (f : Floor) (t : ℕ) : Type 0 where
  pub job : Live
  pub is : job_of f.jobs t ≡ Some job
  pub working : live_state job ≡ state.Working

-- a piece of the tenant's job is settled, and its units are counted
pub record SettlesFor (old : Floor) (t : ℕ) (done : Done) (n : ℕ) (new : Floor) : Type 0 where
  pub job : Live
  pub is : job_of old.jobs t ≡ Some job
  pub next : Live
  pub settled : HasSettled job done n next
  pub new_is : new ≡ with_settled old t next n

-- why the piece of a tenant isn't settled; without a job it is a stranger's
abbrev pub RefusesIn : Option Live → Done → Refused → Type 0
RefusesIn None done why = why ≡ Stranger
RefusesIn (Some j) done why = Refuses j done why

-- a piece comes back to the tenant's job, and fails it
pub record FailsJob (old : Floor) (t : ℕ) (done : Done) (job : Live) (new : Floor) : Type 0 where
  pub next : Live
  pub failed : HasFailed job done next
  pub new_is : new ≡ with_job old t (Some next)

abbrev pub FailsIn : Floor → ℕ → Done → Option Live → Floor → Type 0
FailsIn old t done None new = new ≡ old
FailsIn old t done (Some job) new = FailsJob old t done job new

-- the tenant's job fails
pub record AbortsJob (old : Floor) (t : ℕ) (new : Floor) : Type 0 where
  pub job : Live
  pub is : job_of old.jobs t ≡ Some job
  pub new_is : new ≡ with_job old t (Some (job_aborted job))

-- the tenant has a job of this spec
pub record HasJob (f : Floor) (t : ℕ) (spec : Spec) : Type 0 where
  pub job : Live
  pub is : job_of f.jobs t ≡ Some job
  pub of : IsOf spec job

-- the tenant has no job, or its job's spec is another
abbrev pub IsStrange : Floor → ℕ → Spec → Type 0
IsStrange f t spec = (j : Live) → job_of f.jobs t ≡ Some j → IsOf spec j → ⊥

-- Whoever submitted this spec asks for its job. One that is over is taken out.
abbrev pub CollectsFor : Floor → ℕ → Spec → Collected → Floor → Type 0
CollectsFor old t spec collected.Stranger new = IsStrange old t spec × (new ≡ old)
CollectsFor old t spec collected.Pending new =
    ((has : HasJob old t spec) × ((live_state has.job ≡ state.Working) ⊎ (live_state has.job ≡ state.Failing))) × (new ≡ old)
CollectsFor old t spec (collected.Ended outcome) new =
    ((has : HasJob old t spec) × (live_state has.job ≡ state.Ended) × NoneOut has.job) × IsMeaning spec outcome × (new ≡ with_job old t None)
CollectsFor old t spec collected.Failed new =
    ((has : HasJob old t spec) × (live_state has.job ≡ state.Failed) × NoneOut has.job) × (new ≡ with_job old t None)

-- the tenant's job is over
pub record HasOver (f : Floor) (t : ℕ) : Type 0 where
  pub job : Live
  pub is : job_of f.jobs t ≡ Some job
  pub over : IsOver (live_state job)

-- the tenant's job, which is over, is taken out
pub record LeavesFor (old : Floor) (t : ℕ) (job : Live) (new : Floor) : Type 0 where
  pub is : job_of old.jobs t ≡ Some job
  pub over : IsOver (live_state job)
  pub new_is : new ≡ with_job old t None

-- Claims by turn.

-- no tenant has a claimable task
abbrev pub NothingAnywhere : List (Option Live) → Type 0
NothingAnywhere jobs = (t : ℕ) → NothingAt jobs t

-- a piece of some tenant, where a tenant has a claimable task
abbrev pub ClaimsSome : Floor → ℕ → ℕ → Option (ℕ × Piece) → Floor → Type 0
ClaimsSome old turn worker None new = NothingAnywhere old.jobs × (new ≡ old)
ClaimsSome old turn worker (Some p) new = ClaimsFor old p.0 turn worker p.1 new

-- memory ran out at a claim of this tenant, whose job works and has a claimable task, and nothing has changed
pub record RunsShort (old : Floor) (t : ℕ) (new : Floor) : Type 0 where
  pub working : IsWorking old t
  pub some : ¬ (NothingAt old.jobs t)
  pub same : new ≡ old
