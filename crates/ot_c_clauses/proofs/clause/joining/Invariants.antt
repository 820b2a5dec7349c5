use Rattle.std.proofs.Common.{◌≡◌, drop}
use Rattle.ot_c_expressions.specs.Tree.{items_of}
use Rattle.ot_c_arrays.specs.Each.{each_or_refused}
use Rattle.ot_c_clauses.specs.Clauses.{joined_of, takes_part}
use Rattle.ot_c_clauses.proofs.clause.joining.Given as goal

-- those that are left complete what there is
abbrev pub invariant-loop-item : goal.invariant-loop-item
invariant-loop-item l = each_or_refused (takes_part l.operation) (joined_of l.joined) (items_of (drop l.item-index l.items)) ≡ each_or_refused (takes_part l.operation) (joined_of l.fn.joined) (items_of l.items)
