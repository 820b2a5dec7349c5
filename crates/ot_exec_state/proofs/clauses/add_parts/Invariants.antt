use Rattle.std.proofs.Common.{◌≡◌, drop}
use Rattle.ot_exec_state.specs.Results.{each}
use Rattle.ot_exec_state.specs.Clauses.{with_reduced}
use Rattle.ot_exec_state.specs.View.{slots_of, memory_of}
use Rattle.ot_exec_state.proofs.clauses.add_parts.Given as goal

abbrev pub invariant-loop-item : goal.invariant-loop-item
invariant-loop-item l =
    each (with_reduced (slots_of l.slots) (memory_of l.memory)) (drop l.item-index l.items) l.parts.items
    ≡ each (with_reduced (slots_of l.slots) (memory_of l.memory)) l.items l.fn.parts.items
