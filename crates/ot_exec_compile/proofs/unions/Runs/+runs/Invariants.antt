use Rattle.ot_exec_compile.proofs.unions.Runs.+runs.Given as goal

-- each call goes one deeper
abbrev pub decreases-of_sort : goal.decreases-of_sort
decreases-of_sort l = l.depth

abbrev pub decreases-of_array : goal.decreases-of_array
decreases-of_array l = l.depth

abbrev pub decreases-of_record : goal.decreases-of_record
decreases-of_record l = l.depth
