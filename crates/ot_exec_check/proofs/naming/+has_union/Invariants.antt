use Rattle.ot_exec_check.proofs.naming.+has_union.Given as goal

abbrev pub decreases-has_union : goal.decreases-has_union
decreases-has_union l = l.depth

abbrev pub decreases-has_union_in : goal.decreases-has_union_in
decreases-has_union_in l = l.depth
