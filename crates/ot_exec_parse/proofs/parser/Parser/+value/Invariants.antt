use Rattle.ot_exec_parse.proofs.parser.Parser.+value.Given as goal

abbrev pub decreases-expression : goal.decreases-expression
decreases-expression l = l.depth

abbrev pub decreases-assign : goal.decreases-assign
decreases-assign l = l.depth

abbrev pub decreases-choice : goal.decreases-choice
decreases-choice l = l.depth

abbrev pub decreases-operation : goal.decreases-operation
decreases-operation l = l.depth

abbrev pub decreases-unary : goal.decreases-unary
decreases-unary l = l.depth

abbrev pub decreases-cast : goal.decreases-cast
decreases-cast l = l.depth

abbrev pub decreases-size : goal.decreases-size
decreases-size l = l.depth

abbrev pub decreases-postfix : goal.decreases-postfix
decreases-postfix l = l.depth

abbrev pub decreases-index : goal.decreases-index
decreases-index l = l.depth

abbrev pub decreases-arguments : goal.decreases-arguments
decreases-arguments l = l.depth

abbrev pub decreases-primary : goal.decreases-primary
decreases-primary l = l.depth

abbrev pub decreases-initial : goal.decreases-initial
decreases-initial l = l.depth

abbrev pub decreases-entries : goal.decreases-entries
decreases-entries l = l.depth

abbrev pub decreases-path : goal.decreases-path
decreases-path l = l.depth
