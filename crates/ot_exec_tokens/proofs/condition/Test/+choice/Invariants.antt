use Rattle.ot_exec_tokens.proofs.condition.Test.+choice.Given as goal

abbrev pub decreases-choice : goal.decreases-choice
decreases-choice l = l.depth

abbrev pub decreases-operand : goal.decreases-operand
decreases-operand l = l.depth

abbrev pub decreases-value : goal.decreases-value
decreases-value l = l.depth
