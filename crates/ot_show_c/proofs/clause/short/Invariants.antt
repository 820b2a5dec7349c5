use Rattle.std.proofs.Common.{◌≡◌, ◌++◌, drop}
use Rattle.ot_show_c.specs.Statements.{short}
use Rattle.ot_show_c.proofs.clause.short.Given as goal

-- those that are left follow
abbrev pub invariant-loop-section : goal.invariant-loop-section
invariant-loop-section l = l.few.items ++ short (drop l.section-index l.sections) ≡ short l.sections
