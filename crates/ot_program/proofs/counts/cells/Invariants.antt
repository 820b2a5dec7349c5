use Rattle.std.proofs.Common.{◌≡◌, ◌-◌, ◌^◌, ◌+◌, ◌<◌, min, drop}
use Rattle.ot_program.specs.Limits.{cells_in}
use Rattle.ot_program.proofs.counts.cells.Given as goal

-- the total with the cells of the sections that are left
abbrev pub invariant-loop-section : goal.invariant-loop-section
invariant-loop-section l =
    (min (l.total + cells_in (drop l.section-index l.sections)) (2 ^ 32 - 1) ≡ min (cells_in l.sections) (2 ^ 32 - 1)) × (l.total < 2 ^ 32)
