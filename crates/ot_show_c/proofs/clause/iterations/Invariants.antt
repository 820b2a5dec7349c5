use Rattle.std.proofs.Common.{◌≡◌, ◌++◌, drop}
use Rattle.ot_show_c.specs.Statements.{iterations}
use Rattle.ot_show_c.proofs.clause.iterations.Given as goal

-- those that are left follow
abbrev pub invariant-loop-section : goal.invariant-loop-section
invariant-loop-section l =
    (l.out.names ≡ l.fn.out.names)
    × (l.out.text ++ iterations l.fn.out.names l.opened l.kind (drop l.section-index l.sections) ≡ l.fn.out.text ++ iterations l.fn.out.names l.opened l.kind l.sections)
