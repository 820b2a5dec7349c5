use Rattle.std.proofs.Common.{◌≡◌, ◌++◌, drop}
use Rattle.ot_show_print.specs.Shown.{cells_in}
use Rattle.ot_show_print.proofs.sections.cells_in.Given as goal

-- those that are left follow
abbrev pub invariant-loop-used : goal.invariant-loop-used
invariant-loop-used l = l.cells.items ++ cells_in (drop l.used-index l.used-items) l.mode ≡ cells_in l.decl l.mode
