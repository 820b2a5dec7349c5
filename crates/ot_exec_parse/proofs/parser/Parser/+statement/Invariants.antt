use Rattle.ot_exec_parse.proofs.parser.Parser.+statement.Given as goal

abbrev pub decreases-block : goal.decreases-block
decreases-block l = l.depth

abbrev pub decreases-body : goal.decreases-body
decreases-body l = l.depth

abbrev pub decreases-statement : goal.decreases-statement
decreases-statement l = l.depth

abbrev pub decreases-conditional : goal.decreases-conditional
decreases-conditional l = l.depth

abbrev pub decreases-repeated : goal.decreases-repeated
decreases-repeated l = l.depth

abbrev pub decreases-counted : goal.decreases-counted
decreases-counted l = l.depth

abbrev pub decreases-construct : goal.decreases-construct
decreases-construct l = l.depth

abbrev pub decreases-labelled : goal.decreases-labelled
decreases-labelled l = l.depth
