use Rattle.ot_exec_outline.proofs.ways.+race_of.Given as goal

abbrev pub decreases-race_of : goal.decreases-race_of
decreases-race_of g l = l.questions
