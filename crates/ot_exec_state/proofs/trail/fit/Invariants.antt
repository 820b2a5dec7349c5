use Rattle.std.proofs.Common.{◌≡◌, ◌+◌, take}
use Rattle.std.specs.List.{sum_by}
use Rattle.ot_exec_state.specs.Memory.{count_of}
use Rattle.ot_exec_state.proofs.trail.fit.Given as goal

abbrev pub invariant-loop-part : goal.invariant-loop-part
invariant-loop-part l = l.left + sum_by (λ p. count_of p.span) (take l.part-index l.parts) ≡ l.room
