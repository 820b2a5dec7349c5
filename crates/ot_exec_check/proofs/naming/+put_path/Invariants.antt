use Rattle.ot_exec_check.proofs.naming.+put_path.Given as goal

abbrev pub decreases-put_path : goal.decreases-put_path
decreases-put_path l = l.depth
