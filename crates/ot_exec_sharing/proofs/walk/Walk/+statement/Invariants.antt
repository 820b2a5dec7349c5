use Rattle.ot_exec_sharing.proofs.walk.Walk.+statement.Given as goal

-- each call goes one deeper
abbrev pub decreases-statement : goal.decreases-statement
decreases-statement l = l.depth

abbrev pub decreases-statements : goal.decreases-statements
decreases-statements l = l.depth

abbrev pub decreases-construct : goal.decreases-construct
decreases-construct l = l.depth
