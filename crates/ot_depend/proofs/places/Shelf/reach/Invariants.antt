use Rattle.std.proofs.Common.{◌≡◌, ◌-◌, ◌+◌, ℕ, length}
use Rattle.ot_depend.specs.Places.{mark_of}
use Rattle.ot_depend.proofs.places.Shelf.reach.Given as goal

abbrev pub invariant-loop-alloc : goal.invariant-loop-alloc
invariant-loop-alloc l = (index : ℕ) → mark_of l.self index ≡ mark_of l.initial.self index

abbrev pub decreases-loop-alloc : goal.decreases-loop-alloc
decreases-loop-alloc l = l.place + 1 - length l.self.pages.items
