use Rattle.ot_exec_compile.proofs.maker.Maker.+measure.Given as goal

-- each call goes one deeper
abbrev pub decreases-measure : goal.decreases-measure
decreases-measure l = l.depth
