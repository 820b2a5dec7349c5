use Rattle.std.proofs.Common.{◌≡◌, drop}
use Rattle.ot_c_expressions.specs.Tree.{clauses_of}
use Rattle.ot_c_statements.specs.Directives.{misfit}
use Rattle.ot_c_statements.proofs.directive.misfit.Given as goal

-- those that are left decide
abbrev pub invariant-loop-i : goal.invariant-loop-i
invariant-loop-i l = misfit l.directive (clauses_of (drop l.i l.clauses)) ≡ misfit l.directive (clauses_of l.clauses)
