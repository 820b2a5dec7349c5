-- Which of the jobs are over, which have a claimable task, and that none stands still.
use Rattle.std.specs.Prelude.{◌≡◌, ◌<◌, ℕ, length, Option, Some, None}
use Rattle.ot_job.specs.Dealings.{Live, claimable_in, NoneOut, live_state}
use Rattle.ot_job.specs.declared.state.State.{State}
use Rattle.ot_job.specs.declared.state.State.TheVariants.{Working, Failing, Ended, Failed}

-- one where the job is over
abbrev pub over_by : State → ℕ
over_by Working = 0
over_by Failing = 0
over_by Ended = 1
over_by Failed = 1

abbrev pub over_of : Option Live → ℕ
over_of None = 0
over_of (Some j) = over_by (live_state j)

abbrev pub claimable_count : Option Live → ℕ
claimable_count None = 0
claimable_count (Some j) = length (claimable_in j)

-- a job that works with no piece out has a claimable task, and one that fails has a piece out
pub record IsLively (j : Live) : Type 0 where
  pub works : live_state j ≡ Working → NoneOut j → 0 < length (claimable_in j)
  pub fails : live_state j ≡ Failing → NoneOut j → ⊥

abbrev pub LivelyAt : Option Live → Type 0
LivelyAt None = Unit {0}
LivelyAt (Some j) = IsLively j
