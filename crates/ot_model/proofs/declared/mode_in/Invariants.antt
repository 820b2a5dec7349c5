use Rattle.std.proofs.Common.{◌-◌, ℕ, ◌<◌, ◌≤◌, length, get_or}
use Rattle.ot_model.specs.Cells.{Precedes}
use Rattle.ot_model.specs.declared.stmt.Use.{Use}
use Rattle.ot_model.proofs.declared.mode_in.Given as goal

abbrev pub invariant-loop-low : goal.invariant-loop-low
invariant-loop-low l =
    (l.low ≤ l.high) × (l.high ≤ length l.uses)
    × ((k : ℕ) (d : Use) → k < l.low → Precedes (get_or l.uses k d).cell l.cell)
    × ((k : ℕ) (d : Use) → l.high ≤ k → k < length l.uses → Precedes l.cell (get_or l.uses k d).cell)

abbrev pub decreases-loop-low : goal.decreases-loop-low
decreases-loop-low l = l.high - l.low
