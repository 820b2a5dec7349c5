use Rattle.std.proofs.Common.{◌≡◌, ◌++◌}
use Rattle.ot_model.specs.Tree.{cells_of}
use Rattle.ot_program.proofs.CellLists.{cells_left}
use Rattle.ot_program.proofs.declaration.push_cells.Given as goal

-- the cells so far, with those that are left
abbrev pub invariant-loop-step : goal.invariant-loop-step
invariant-loop-step l = l.cells.items ++ cells_left l.section l.step ≡ l.initial.cells.items ++ cells_of l.section
