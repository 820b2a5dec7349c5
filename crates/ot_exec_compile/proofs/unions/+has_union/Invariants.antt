use Rattle.ot_exec_compile.proofs.unions.+has_union.Given as goal

-- each call goes one deeper
abbrev pub decreases-has_union : goal.decreases-has_union
decreases-has_union l = l.depth
