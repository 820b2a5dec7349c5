use Rattle.std.proofs.Common.{◌≡◌, drop}
use Rattle.ot_c_expressions.specs.Tree.{clauses_of}
use Rattle.ot_c_arrays.specs.Each.{each_or_refused}
use Rattle.ot_c_clauses.specs.Clauses.{head_of, claim_items}
use Rattle.ot_c_clauses.proofs.clause.others.Given as goal

-- those that are left complete what there is
abbrev pub invariant-loop-clause : goal.invariant-loop-clause
invariant-loop-clause l = each_or_refused claim_items (head_of l.heading) (clauses_of (drop l.clause-index l.clauses)) ≡ each_or_refused claim_items (head_of l.fn.heading) (clauses_of l.clauses)
