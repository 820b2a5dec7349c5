use Rattle.std.proofs.Common.{◌≡◌, drop}
use Rattle.ot_exec_state.specs.Results.{each}
use Rattle.ot_exec_machine.specs.Steps.{siding}
use Rattle.ot_exec_machine.specs.View.{machine_state}
use Rattle.ot_exec_machine.proofs.machine.Machine.side.Given as goal

abbrev pub invariant-loop-item : goal.invariant-loop-item
invariant-loop-item l =
    each (siding l.limits l.site) (drop l.item-index l.items) (machine_state l.self, l.set.items)
    ≡ each (siding l.limits l.site) l.items (machine_state l.fn.self, l.fn.set.items)
