use Rattle.std.proofs.Common.{◌≡◌, drop}
use Rattle.ot_c_statements.specs.Tree.{exprs_of}
use Rattle.ot_c_arrays.specs.Each.{each_or_refused}
use Rattle.ot_c_arrays.specs.Arrays.{number_step, numbers}
use Rattle.ot_c_arrays.proofs.arrays.numbers.Given as goal

-- those that are left complete what there is
abbrev pub invariant-loop-expr : goal.invariant-loop-expr
invariant-loop-expr l = each_or_refused (number_step l.scope l.kind) l.cells.items (exprs_of (drop l.expr-index l.exprs)) ≡ numbers l.scope l.kind (exprs_of l.exprs)
