use Rattle.std.proofs.Common.{◌≡◌, drop}
use Rattle.ot_c_expressions.specs.Tree.{clauses_of}
use Rattle.ot_c_program.specs.Regions as meant
use Rattle.ot_c_program.proofs.region.are_strict.Given as goal

-- those that are left decide
abbrev pub invariant-loop-clause : goal.invariant-loop-clause
invariant-loop-clause l = meant.are_strict (clauses_of (drop l.clause-index l.clauses)) ≡ meant.are_strict (clauses_of l.clauses)
