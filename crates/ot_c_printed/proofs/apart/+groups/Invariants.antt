use Rattle.std.proofs.Common.{◌≡◌, drop}
use Rattle.ot_model.specs.View.{stmts_of}
use Rattle.ot_c_printed.specs.Apart.{body_has_group}
use Rattle.ot_c_printed.proofs.apart.+groups.Given as goal

-- those that are left decide
abbrev pub invariant-has_group-loop-stmt : goal.invariant-has_group-loop-stmt
invariant-has_group-loop-stmt l = body_has_group (stmts_of (drop l.stmt-index l.stmts)) ≡ body_has_group (stmts_of l.stmts)
