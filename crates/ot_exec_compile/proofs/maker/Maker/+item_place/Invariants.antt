use Rattle.ot_exec_compile.proofs.maker.Maker.+item_place.Given as goal

-- each call goes one deeper
abbrev pub decreases-item_place : goal.decreases-item_place
decreases-item_place l = l.depth
