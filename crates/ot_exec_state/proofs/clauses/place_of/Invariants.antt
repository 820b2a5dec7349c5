use Rattle.std.proofs.Common.{◌≡◌, ◌+◌, drop}
use Rattle.ot_exec_state.specs.Clauses.{before}
use Rattle.ot_exec_state.proofs.clauses.place_of.Given as goal

abbrev pub invariant-loop-used : goal.invariant-loop-used
invariant-loop-used l = (l.place ≡ l.used-index) × (l.place + before l.cell (drop l.used-index l.uses) ≡ before l.cell l.uses)
