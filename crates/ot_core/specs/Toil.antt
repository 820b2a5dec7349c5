-- How much is left to do in a world, and how many events drain may take.
use Rattle.std.specs.Prelude.{◌+◌, ◌*◌, ℕ, zero, suc, nat_lt, if◌then◌else◌, length, Option, Some, None, slice_get, ◌-◌}
use Rattle.std.specs.List.{sum_by}
use Rattle.ot_check.specs.Jobs.{Spec}
use Rattle.ot_job.specs.Dealings.{Live, live_state, settles_left, out_of}
use Rattle.ot_job.specs.declared.state.State.{State}
use Rattle.ot_job.specs.declared.state.State.TheVariants.{Working, Failing, Ended, Failed}
use Rattle.ot_core.specs.Accounts.{Account, answered_count}
use Rattle.ot_hall.specs.Floors.{job_of}
use Rattle.ot_core.specs.Scenes.{Scene}
use Rattle.ot_core.specs.declared.held.Held.{Held}
use Rattle.ot_hall.specs.Lively.{claimable_count, over_of}

abbrev pub toil_by : State → Live → ℕ
toil_by Working j = 2 + 2 * settles_left j
toil_by Failing j = 1 + 2 * out_of j
toil_by Ended j = 1
toil_by Failed j = 1

-- of a job: its weight while it works, then its pieces that are out
abbrev pub toil_of : Option Live → ℕ
toil_of None = 0
toil_of (Some j) = toil_by (live_state j) j

abbrev pub one_if : {X : Type 0} → Option X → ℕ
one_if None = 0
one_if (Some x) = 1

-- the lines that no request was opened for
abbrev pub unopened_count : Account → ℕ
unopened_count a = length a.asked - (answered_count a + one_if a.spec)

abbrev pub free_hand : Option Held → ℕ
free_hand None = 1
free_hand (Some h) = 0

-- a line is worth more than any job
abbrev pub toil : Scene → ℕ
toil s = 200000 * sum_by unopened_count s.accounts + sum_by toil_of s.floor.jobs + sum_by free_hand s.hands

-- one where the next line may be opened
abbrev pub closed_by : Option Spec → ℕ
closed_by None = 1
closed_by (Some s) = 0

abbrev pub opens_of : Option Account → ℕ
opens_of None = 0
opens_of (Some a) = if nat_lt (answered_count a) (length a.asked) then closed_by a.spec else 0

-- of a tenant: its next line, its job's end, and each claimable task for each free hand
abbrev pub moves_at : Scene → ℕ → ℕ
moves_at s t = opens_of (slice_get s.accounts t) + over_of (job_of s.floor.jobs t) + sum_by free_hand s.hands * claimable_count (job_of s.floor.jobs t)

abbrev pub full_hand : Option Held → ℕ
full_hand None = 0
full_hand (Some h) = 1

-- of the numbers below n
abbrev pub sum_below : (ℕ → ℕ) → ℕ → ℕ
sum_below f zero = 0
sum_below f (suc n) = sum_below f n + f n

-- those of all tenants, and each full hand
abbrev pub moves_left : Scene → ℕ
moves_left s = sum_below (moves_at s) (length s.accounts) + sum_by full_hand s.hands
