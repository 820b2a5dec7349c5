use Rattle.std.proofs.Common.{◌≡◌, drop}
use Rattle.ot_exec_state.specs.Siblings.{unordered_mode}
use Rattle.ot_exec_state.proofs.siblings.mode_at.Given as goal

abbrev pub invariant-loop-one : goal.invariant-loop-one
invariant-loop-one l = unordered_mode l.task l.cell (drop l.one-index l.all) ≡ unordered_mode l.task l.cell l.all
