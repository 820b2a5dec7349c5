-- What a worker's round does, and whom it wakes.
use Rattle.std.specs.Prelude.{◌≡◌, ◌⊎◌, ◌&&◌, ℕ, Bool, true, false, not, Option, Some, None, option_map}
use Rattle.ot_job.specs.Dealings.{live_state}
use Rattle.ot_job.specs.Taken.{Came as Done, is_short}
use Rattle.ot_hall.specs.Floors.{job_of, NothingAnywhere}
use Rattle.ot_pool.specs.declared.hub.Claimed.{Claimed}
use Rattle.ot_pool.specs.declared.hub.Claimed.TheVariants as claimed
use Rattle.ot_pool.specs.Shared.{ClaimsAny, ReturnsPiece, Shared, is_going}

-- the pool is open, and the tenant has a job that isn't over
abbrev pub is_job_going : Shared → ℕ → Bool
is_job_going s t = not s.closed && is_going (option_map (λ j. live_state j) (job_of s.floor.jobs t))

-- ---- a worker's round

-- a piece comes back, where there is one
abbrev pub TakesBack : Shared → Option (ℕ × Done) → Shared → Type 0
TakesBack old None new = new ≡ old
TakesBack old (Some p) new = (units : Option ℕ) × ReturnsPiece old p.0 p.1 units new

-- a worker hands back what it ran, and claims behind it
pub record Rounds (old : Shared) (back : Option (ℕ × Done)) (turn worker : ℕ) (got : Claimed) (new : Shared) : Type 0 where
  pub between : Shared
  pub takes : TakesBack old back between
  pub claims : ClaimsAny between turn worker got new

-- whose piece came back
abbrev pub client_of : Option (ℕ × Done) → Option ℕ
client_of None = None
client_of (Some p) = Some p.0

-- that client has no job any more that isn't over, or the pool is closed
abbrev pub is_over : Option ℕ → Shared → Bool
is_over None s = false
is_over (Some t) s = not (is_job_going s t)

-- a claim aborted a job
abbrev pub is_aborted : Claimed → Bool
is_aborted (claimed.Aborted t) = true
is_aborted _ = false

-- a claim gave a short piece
abbrev pub is_short_piece : Claimed → Bool
is_short_piece (claimed.Got t piece) = is_short piece
is_short_piece _ = false

-- a worker waits and none looks, and a task is claimable
abbrev pub CallsWorkers : Bool → Shared → Type 0
CallsWorkers waits s = (waits ≡ true) × ¬ (NothingAnywhere s.floor.jobs)

-- Behind a round somebody who waits may go on: the client whose piece came back, for its job is over, the client of a job that
-- was aborted, or a worker.
abbrev pub IsToTell : Option (ℕ × Done) → Claimed → Bool → Shared → Type 0
IsToTell back got waits new = (is_over (client_of back) new ≡ true) ⊎ ((is_aborted got ≡ true) ⊎ CallsWorkers waits new)
