-- Where tasks end.
use Rattle.std.specs.Prelude.{◌<◌, ◌≤◌, ℕ, Bool, nat_lt, List, get_or, filter}
use Rattle.ot_race.specs.Events.{Event}
use Rattle.ot_race.specs.Order.{IsBy}

-- each event of the task is among the first n
abbrev pub HasEnded : List Event → ℕ → ℕ → Type 0
HasEnded es n task = (k : ℕ) → IsBy es task k → k < n

-- of each task one more than its last event, or more
abbrev pub end_of : List ℕ → ℕ → ℕ
end_of ends task = get_or ends task 0

abbrev pub AreEnds : List Event → List ℕ → Type 0
AreEnds es ends = (task n : ℕ) → end_of ends task ≤ n → HasEnded es n task

-- whether the task goes on behind the first n events
abbrev pub goes_on : List ℕ → ℕ → ℕ → Bool
goes_on ends n task = nat_lt n (end_of ends task)

-- those of these tasks that do
abbrev pub going_on : List ℕ → ℕ → List ℕ → List ℕ
going_on ends n tasks = filter (goes_on ends n) tasks
