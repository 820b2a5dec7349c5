use Rattle.ot_model.proofs.SameLemmas.{Decide}
use Rattle.ot_model.proofs.stmt.+same.Given as goal

-- those that are left decide
abbrev pub invariant-same_stmts-loop-i : goal.invariant-same_stmts-loop-i
invariant-same_stmts-loop-i l = Decide l.ones l.twos l.i
