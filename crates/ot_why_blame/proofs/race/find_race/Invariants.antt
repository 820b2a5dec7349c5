use Rattle.std.proofs.Common.{ℕ, ◌<◌, length}
use Rattle.ot_model.specs.View.{stmts_of}
use Rattle.ot_why_blame.specs.Walk.{IsSpared}
use Rattle.ot_why_blame.proofs.race.find_race.Given as goal

abbrev pub decreases-loop-child : goal.decreases-loop-child
decreases-loop-child l = length l.tasks.items

-- no task so far
abbrev pub invariant-loop-other : goal.invariant-loop-other
invariant-loop-other l = (task : ℕ) → 0 < task → task < l.other → IsSpared l.place task (stmts_of l.program.body.items)
