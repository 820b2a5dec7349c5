use Rattle.std.proofs.Common.{◌≡◌, map, take}
use Rattle.ot_model.specs.View.{stmt_of}
use Rattle.ot_model.proofs.stmt.+copy.Given as goal

abbrev pub invariant-copy_stmts-loop-stmt : goal.invariant-copy_stmts-loop-stmt
invariant-copy_stmts-loop-stmt l = map stmt_of l.copies.items ≡ map stmt_of (take l.stmt-index l.stmts)
