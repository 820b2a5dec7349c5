use Rattle.ot_exec_sharing.proofs.walk.Walk.+expression.Given as goal

-- each call goes one deeper
abbrev pub decreases-expression : goal.decreases-expression
decreases-expression l = l.depth

abbrev pub decreases-expressions : goal.decreases-expressions
decreases-expressions l = l.depth

abbrev pub decreases-initial : goal.decreases-initial
decreases-initial l = l.depth

abbrev pub decreases-entries : goal.decreases-entries
decreases-entries l = l.depth
