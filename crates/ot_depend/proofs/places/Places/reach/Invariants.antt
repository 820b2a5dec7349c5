use Rattle.std.proofs.Common.{◌≡◌, ◌-◌, ◌+◌, length}
use Rattle.ot_model.specs.declared.expr.Cell.{Cell}
use Rattle.ot_depend.specs.Places.{mark_in}
use Rattle.ot_depend.proofs.places.Places.reach.Given as goal

abbrev pub invariant-loop-alloc : goal.invariant-loop-alloc
invariant-loop-alloc l = (cell : Cell) → mark_in l.self cell ≡ mark_in l.initial.self cell

abbrev pub decreases-loop-alloc : goal.decreases-loop-alloc
decreases-loop-alloc l = l.array + 1 - length l.self.shelves.items
