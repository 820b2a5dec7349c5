use denote.Text.{Utf8}
use denote.Shadow.{shadow}
use Rattle.std.proofs.Common.{◌≡◌, ◌++◌, drop}
use Rattle.std.specs.Prelude.{codes}
use Rattle.ot_show_c.specs.Statements.{items}
use Rattle.ot_show_c.proofs.clause.items.Given as goal

-- those that are left follow
abbrev pub invariant-loop-section : goal.invariant-loop-section
invariant-loop-section l =
    shadow (Utf8 l.before)
    × (l.out.names ≡ l.fn.out.names)
    × (l.out.text ++ items l.fn.out.names l.before (drop l.section-index l.sections) ≡ l.fn.out.text ++ items l.fn.out.names (codes ": ") l.sections)
