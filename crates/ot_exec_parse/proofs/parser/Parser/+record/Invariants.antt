use Rattle.ot_exec_parse.proofs.parser.Parser.+record.Given as goal

abbrev pub decreases-specifiers : goal.decreases-specifiers
decreases-specifiers l = l.depth

abbrev pub decreases-record : goal.decreases-record
decreases-record l = l.depth

abbrev pub decreases-members : goal.decreases-members
decreases-members l = l.depth
