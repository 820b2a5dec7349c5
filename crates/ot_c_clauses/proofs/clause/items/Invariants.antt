use Rattle.std.proofs.Common.{◌≡◌, drop}
use Rattle.ot_c_expressions.specs.Tree.{items_of, over_of}
use Rattle.ot_c_arrays.specs.Each.{each_or_refused}
use Rattle.ot_c_clauses.specs.Clauses.{head_of, claim_item}
use Rattle.ot_c_clauses.proofs.clause.items.Given as goal

-- those that are left complete what there is
abbrev pub invariant-loop-item : goal.invariant-loop-item
invariant-loop-item l = each_or_refused (claim_item l.role (over_of l.over)) (head_of l.heading) (items_of (drop l.item-index l.items)) ≡ each_or_refused (claim_item l.role (over_of l.over)) (head_of l.fn.heading) (items_of l.items)
