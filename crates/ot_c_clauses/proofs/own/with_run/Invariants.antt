use Rattle.std.proofs.Common.{◌≤◌}
use Rattle.ot_c_clauses.specs.Cells.{HasRun}
use Rattle.ot_c_clauses.proofs.own.with_run.Given as goal

-- the cells at the places so far are there
abbrev pub invariant-loop-place : goal.invariant-loop-place
invariant-loop-place l = (l.first ≤ l.place) × (l.place ≤ l.end) × HasRun l.array l.first l.place l.fn.named l.more
