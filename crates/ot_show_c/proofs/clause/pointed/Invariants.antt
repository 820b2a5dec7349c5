use denote.Text.{Utf8}
use denote.Shadow.{shadow}
use Rattle.std.proofs.Common.{◌≡◌, ◌++◌, drop}
use Rattle.std.specs.Prelude.{codes}
use Rattle.ot_show_c.specs.Statements.{pointer_items}
use Rattle.ot_show_c.proofs.clause.pointed.Given as goal

-- those that are left follow
abbrev pub invariant-loop-cell : goal.invariant-loop-cell
invariant-loop-cell l =
    shadow (Utf8 l.before)
    × (l.out.names ≡ l.fn.out.names)
    × (l.out.text ++ pointer_items l.fn.out.names l.before l.op (drop l.cell-index l.cells) ≡ l.fn.out.text ++ pointer_items l.fn.out.names (codes ": ") l.op l.cells)
