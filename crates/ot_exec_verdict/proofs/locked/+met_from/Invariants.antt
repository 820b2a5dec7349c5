use Rattle.ot_exec_verdict.proofs.locked.+met_from.Given as goal

abbrev pub decreases-met_from : goal.decreases-met_from
decreases-met_from l = l.questions
