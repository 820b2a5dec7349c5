use Rattle.std.proofs.Common.{◌≡◌, drop}
use Rattle.ot_c_statements.specs.Tree.{body_of, list_of}
use Rattle.ot_c_lines.specs.Lines.{lines_of}
use Rattle.ot_c_program.specs.Statements.{source_of, body_from, body}
use Rattle.ot_c_program.proofs.statements.+statement.Given as goal

-- those that are left complete what there is
abbrev pub invariant-body-loop-stmt : goal.invariant-body-loop-stmt
invariant-body-loop-stmt l = body_from (source_of l.source) l.scope (lines_of l.lines) (body_of (list_of (drop l.stmt-index l.stmts))) ≡ body (source_of l.source) l.scope (body_of (list_of l.stmts))
