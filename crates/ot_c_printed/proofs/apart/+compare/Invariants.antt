use Rattle.std.proofs.Common.{drop}
use Rattle.ot_model.specs.View.{stmts_of}
use Rattle.ot_c_printed.proofs.ApartLemmas.{Holds}
use Rattle.ot_c_printed.proofs.apart.+compare.Given as goal

-- what holds of those that are left holds of all
abbrev pub invariant-compare-loop-stmt : goal.invariant-compare-loop-stmt
invariant-compare-loop-stmt l = Holds l.own l.number (stmts_of (drop l.stmt-index l.stmts)) (stmts_of (drop l.place l.back)) l.first (stmts_of l.stmts) (stmts_of l.back)
