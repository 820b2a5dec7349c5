use Rattle.std.proofs.Common.{◌≡◌, drop}
use Rattle.ot_c_expressions.specs.Tree.{clauses_of}
use Rattle.ot_c_arrays.specs.Each.{each_or_refused}
use Rattle.ot_c_clauses.specs.Clauses.{joined_of, joining_step, all_joining}
use Rattle.ot_c_clauses.proofs.clause.all_joining.Given as goal

-- those that are left complete what there is
abbrev pub invariant-loop-clause : goal.invariant-loop-clause
invariant-loop-clause l = each_or_refused joining_step (joined_of l.joined) (clauses_of (drop l.clause-index l.clauses)) ≡ all_joining l.fn.scope (clauses_of l.clauses)
