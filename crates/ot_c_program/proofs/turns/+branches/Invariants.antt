use Rattle.std.proofs.Common.{◌≡◌, drop}
use Rattle.ot_c_statements.specs.Tree.{body_of, list_of}
use Rattle.ot_c_program.specs.Turns.{has_branch}
use Rattle.ot_c_program.proofs.turns.+branches.Given as goal

-- none stands in those that were passed
abbrev pub invariant-has_branch-loop-stmt : goal.invariant-has_branch-loop-stmt
invariant-has_branch-loop-stmt l = has_branch (body_of (list_of (drop l.stmt-index l.stmts))) ≡ has_branch (body_of (list_of l.stmts))
