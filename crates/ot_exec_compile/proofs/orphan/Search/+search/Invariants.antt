use Rattle.ot_exec_compile.proofs.orphan.Search.+search.Given as goal

-- each call goes one deeper
abbrev pub decreases-statement : goal.decreases-statement
decreases-statement l = l.depth

abbrev pub decreases-statements : goal.decreases-statements
decreases-statements l = l.depth
