use Rattle.std.proofs.Common.{◌≡◌, drop}
use Rattle.ot_model.specs.Cells.{AreInOrder}
use Rattle.ot_exec_state.specs.Results.{each}
use Rattle.ot_exec_state.specs.Clauses.{with_item}
use Rattle.ot_exec_state.specs.View.{slots_of, memory_of}
use Rattle.ot_exec_state.proofs.clauses.add_items.Given as goal

abbrev pub invariant-loop-item : goal.invariant-loop-item
invariant-loop-item l =
    (each (with_item (slots_of l.slots) (memory_of l.memory) l.waits l.all) (drop l.item-index l.items) l.uses.items
    ≡ each (with_item (slots_of l.slots) (memory_of l.memory) l.waits l.all) l.items l.fn.uses.items)
    × AreInOrder l.uses.items
