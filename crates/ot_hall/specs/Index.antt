-- Where the jobs of tenants lie, and whose turn it is.
use Rattle.std.specs.Prelude.{◌≡◌, ◌⊎◌, ℕ, List, Option, Some, None, slice_set, slice_index_or, length, IsSome, map, ◌≤◌, ◌<◌}
use Rattle.ot_check.specs.Jobs.{Spec}
use Rattle.ot_job.specs.Dealings.{Live, Starts}
use Rattle.slab.specs.Slab.{Slab, get}
use Rattle.ot_hall.specs.declared.live.Jobs.TheInside.{Inside}
use Rattle.ot_hall.specs.Floors.{NothingAnywhere, NothingAt}

-- the job at a key
abbrev pub job_at : Slab Live → Option ℕ → Option Live
job_at s None = None
job_at s (Some key) = get s key

abbrev pub jobs_of : Inside → List (Option Live)
jobs_of l = map (job_at l.slab) l.keys.items

-- the key of the tenant's job
abbrev pub key_of : List (Option ℕ) → ℕ → Option ℕ
key_of keys tenant = slice_index_or keys tenant None

-- each key has a job, and no two tenants have one key
pub record Indexes (slab : Slab Live) (keys : List (Option ℕ)) : Type 0 where
  pub there : (t k : ℕ) → key_of keys t ≡ Some k → IsSome (get slab k)
  pub apart : (t u k : ℕ) → key_of keys t ≡ Some k → key_of keys u ≡ Some k → t ≡ u

abbrev pub IsIndexed : Inside → Type 0
IsIndexed l = Indexes l.slab l.keys.items

-- the tenant has a job that begins
pub record Begins (old : List (Option Live)) (tenant : ℕ) (spec : Spec) (new : List (Option Live)) : Type 0 where
  pub job : Live
  pub starts : Starts spec job
  pub new_is : new ≡ slice_set old tenant (Some job)

-- no tenant from one number up to another has a claimable task
abbrev pub NothingIn : List (Option Live) → ℕ → ℕ → Type 0
NothingIn jobs from to = (t : ℕ) → from ≤ t → t < to → NothingAt jobs t

-- the first tenant with a claimable task from one number on, and else the first of all
abbrev pub IsNext : List (Option Live) → ℕ → Option ℕ → Type 0
IsNext jobs first None = NothingAnywhere jobs
IsNext jobs first (Some t) = ¬ (NothingAt jobs t) × (((first ≤ t) × NothingIn jobs first t) ⊎ (NothingIn jobs first (length jobs) × NothingIn jobs 0 t))
