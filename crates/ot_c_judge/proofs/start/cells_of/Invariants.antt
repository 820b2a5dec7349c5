use Rattle.std.proofs.Common.{◌≡◌, map}
use Rattle.ot_c_judge.specs.Start.{starting_cells}
use Rattle.ot_c_judge.proofs.start.cells_of.Given as goal

-- those so far are there
abbrev pub invariant-loop-array : goal.invariant-loop-array
invariant-loop-array l = map (λ a. a.items) l.cells.items ≡ starting_cells l.yielded
