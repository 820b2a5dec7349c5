use Rattle.std.proofs.Common.{◌≡◌, ◌++◌, map}
use Rattle.ot_store.proofs.store.Store.cells.Given as goal

abbrev pub invariant-loop-cells : goal.invariant-loop-cells
invariant-loop-cells l = map (λ a. a.items) l.lists.items ++ map (λ a. a.items) l.cells-iterator ≡ map (λ a. a.items) l.initial.cells-iterator
