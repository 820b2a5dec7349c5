use Rattle.ot_exec_parse.proofs.parser.Parser.+declarator.Given as goal

abbrev pub decreases-declarator : goal.decreases-declarator
decreases-declarator l = l.depth

abbrev pub decreases-inner_declarator : goal.decreases-inner_declarator
decreases-inner_declarator l = l.depth

abbrev pub decreases-suffix : goal.decreases-suffix
decreases-suffix l = l.depth

abbrev pub decreases-parameters : goal.decreases-parameters
decreases-parameters l = l.depth
