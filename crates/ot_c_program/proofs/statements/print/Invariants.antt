use Rattle.std.proofs.Common.{◌≡◌, drop}
use Rattle.ot_c_statements.specs.Tree.{exprs_of}
use Rattle.ot_c_arrays.specs.Each.{each_or_refused}
use Rattle.ot_c_lines.specs.Lines.{lines_of}
use Rattle.ot_c_program.specs.Statements.{read_step, print}
use Rattle.ot_c_program.proofs.statements.print.Given as goal

-- those that are left complete what there is
abbrev pub invariant-loop-expr : goal.invariant-loop-expr
invariant-loop-expr l = each_or_refused (read_step l.scope l.left) (lines_of l.lines) (exprs_of (drop l.expr-index l.exprs)) ≡ print l.scope l.left (exprs_of l.exprs)
