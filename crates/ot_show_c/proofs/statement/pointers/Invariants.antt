use Rattle.std.proofs.Common.{◌≡◌, ◌++◌, drop}
use Rattle.ot_show_c.specs.Statements.{pointers}
use Rattle.ot_show_c.proofs.statement.pointers.Given as goal

-- those that are left follow
abbrev pub invariant-loop-cell : goal.invariant-loop-cell
invariant-loop-cell l =
    (l.out.names ≡ l.fn.out.names)
    × (l.out.text ++ pointers l.fn.out.names l.margin l.op (drop l.cell-index l.cells) ≡ l.fn.out.text ++ pointers l.fn.out.names l.margin l.op l.cells)
