use Rattle.std.proofs.Common.{◌≡◌, ◌++◌, drop}
use Rattle.ot_model.specs.View.{stmts_of}
use Rattle.ot_show_c.specs.Statements.{body}
use Rattle.ot_show_c.proofs.statement.+statement.Given as goal

-- those that are left follow
abbrev pub invariant-statements-loop-stmt : goal.invariant-statements-loop-stmt
invariant-statements-loop-stmt l =
    (l.out.names ≡ l.fn.out.names)
    × (l.out.text ++ body l.fn.out.names l.margin l.own (stmts_of (drop l.stmt-index l.stmts)) ≡ l.fn.out.text ++ body l.fn.out.names l.margin l.own (stmts_of l.stmts))
