use Rattle.std.proofs.Common.{◌≡◌, ◌++◌, take}
use Rattle.ot_exec_state.specs.Trail.{written_by}
use Rattle.ot_exec_state.proofs.trail.add_written.Given as goal

abbrev pub invariant-loop-part : goal.invariant-loop-part
invariant-loop-part l = l.uses.items ≡ l.fn.uses.items ++ written_by (take l.part-index l.parts)
