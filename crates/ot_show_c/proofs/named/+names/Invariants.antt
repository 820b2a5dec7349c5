use Rattle.std.proofs.Common.{◌≡◌, drop}
use Rattle.ot_model.specs.View.{stmts_of}
use Rattle.ot_show_c.specs.Named.{body_names}
use Rattle.ot_show_c.proofs.named.+names.Given as goal

-- those that are left decide
abbrev pub invariant-body_names-loop-stmt : goal.invariant-body_names-loop-stmt
invariant-body_names-loop-stmt l = body_names l.array (stmts_of (drop l.stmt-index l.stmts)) ≡ body_names l.array (stmts_of l.stmts)
