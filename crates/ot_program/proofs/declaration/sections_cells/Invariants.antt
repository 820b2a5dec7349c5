use Rattle.std.proofs.Common.{◌≡◌, ◌++◌, drop}
use Rattle.std.specs.Prelude.{flat_map}
use Rattle.ot_model.specs.Tree.{cells_of}
use Rattle.ot_program.proofs.declaration.sections_cells.Given as goal

-- the cells so far, with those of the sections that are left
abbrev pub invariant-loop-section : goal.invariant-loop-section
invariant-loop-section l = l.cells.items ++ flat_map cells_of (drop l.section-index l.sections) ≡ flat_map cells_of l.sections
