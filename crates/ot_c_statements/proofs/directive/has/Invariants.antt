use Rattle.std.proofs.Common.{◌≡◌, drop}
use Rattle.ot_c_expressions.specs.Tree.{clauses_of}
use Rattle.ot_c_statements.specs.Directives.{has}
use Rattle.ot_c_statements.proofs.directive.has.Given as goal

-- those that are left decide
abbrev pub invariant-loop-clause : goal.invariant-loop-clause
invariant-loop-clause l = has l.once (clauses_of (drop l.clause-index l.clauses)) ≡ has l.once (clauses_of l.clauses)
