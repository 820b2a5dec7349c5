use Rattle.std.proofs.Common.{◌≡◌, drop}
use Rattle.ot_model.specs.View.{stmts_of}
use Rattle.ot_show_c.specs.Named.{body_calls}
use Rattle.ot_show_c.proofs.named.+calls.Given as goal

-- those that are left decide
abbrev pub invariant-body_calls-loop-stmt : goal.invariant-body_calls-loop-stmt
invariant-body_calls-loop-stmt l = body_calls l.call (stmts_of (drop l.stmt-index l.stmts)) ≡ body_calls l.call (stmts_of l.stmts)
