use Rattle.std.proofs.Common.{ℕ, ◌<◌, ◌≤◌}
use Rattle.ot_race.specs.Ends.{end_of}
use Rattle.ot_race.specs.Order.{IsBy}
use Rattle.ot_race.specs.View.{events_in}
use Rattle.ot_race.proofs.ends.ends_of.Given as goal

-- so for the events so far
abbrev pub invariant-loop-number : goal.invariant-loop-number
invariant-loop-number l = (task n : ℕ) → end_of l.ends.items task ≤ n → (k : ℕ) → IsBy (events_in l.events) task k → k < l.number → k < n
