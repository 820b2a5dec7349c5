use Rattle.std.proofs.Common.{◌≡◌, ◌++◌, drop}
use Rattle.ot_show_print.specs.Shown.{sections_behind, sections_of}
use Rattle.ot_show_print.proofs.sections.sections_of.Given as goal

-- those that are left follow the section that is open
abbrev pub invariant-loop-cell : goal.invariant-loop-cell
invariant-loop-cell l = l.sections.items ++ sections_behind l.open (drop l.cell-index l.cell-items) ≡ sections_of l.cells
