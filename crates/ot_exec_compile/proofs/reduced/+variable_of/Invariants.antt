use Rattle.ot_exec_compile.proofs.reduced.+variable_of.Given as goal

-- each call goes one deeper
abbrev pub decreases-variable_of : goal.decreases-variable_of
decreases-variable_of l = l.depth
