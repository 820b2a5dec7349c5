use Rattle.ot_exec_compile.proofs.maker.Maker.+value.Given as goal

-- each call goes one deeper
abbrev pub decreases-expression : goal.decreases-expression
decreases-expression l = l.depth

abbrev pub decreases-converted : goal.decreases-converted
decreases-converted l = l.depth

abbrev pub decreases-address : goal.decreases-address
decreases-address l = l.depth

abbrev pub decreases-step : goal.decreases-step
decreases-step l = l.depth

abbrev pub decreases-binary : goal.decreases-binary
decreases-binary l = l.depth

abbrev pub decreases-assign : goal.decreases-assign
decreases-assign l = l.depth

abbrev pub decreases-choice : goal.decreases-choice
decreases-choice l = l.depth

abbrev pub decreases-aim : goal.decreases-aim
decreases-aim l = l.depth

abbrev pub decreases-call : goal.decreases-call
decreases-call l = l.depth

abbrev pub decreases-pass : goal.decreases-pass
decreases-pass l = l.depth

abbrev pub decreases-initial : goal.decreases-initial
decreases-initial l = l.depth

abbrev pub decreases-literal : goal.decreases-literal
decreases-literal l = l.depth

abbrev pub decreases-puts : goal.decreases-puts
decreases-puts l = l.depth

abbrev pub decreases-fills_spot : goal.decreases-fills_spot
decreases-fills_spot l = l.depth

abbrev pub decreases-fills : goal.decreases-fills
decreases-fills l = l.depth

abbrev pub decreases-fills_part : goal.decreases-fills_part
decreases-fills_part l = l.depth
