use Rattle.std.proofs.Common.{◌≡◌, false, take}
use Rattle.std.specs.List.{list_any}
use Rattle.ot_exec_state.specs.Nest.{is_part}
use Rattle.ot_exec_state.proofs.nest.Nest.joins.Given as goal

abbrev pub invariant-loop-part : goal.invariant-loop-part
invariant-loop-part l = list_any (is_part l.fold l.span) (take l.part-index l.part-items) ≡ false
