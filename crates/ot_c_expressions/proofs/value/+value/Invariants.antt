use Rattle.std.proofs.Common.{◌+◌, ◌*◌}
use Rattle.ot_c_expressions.proofs.value.+value.Given as goal

abbrev pub decreases-more : goal.decreases-more
decreases-more l = 32 * l.depth + l.turns + 1

abbrev pub decreases-named : goal.decreases-named
decreases-named l = 32 * l.depth + 1

abbrev pub decreases-called : goal.decreases-called
decreases-called l = 32 * l.depth + 1

abbrev pub decreases-bracket : goal.decreases-bracket
decreases-bracket l = 32 * l.depth + 1

abbrev pub decreases-prefixed : goal.decreases-prefixed
decreases-prefixed l = 32 * l.depth + 1

abbrev pub decreases-choice : goal.decreases-choice
decreases-choice l = 32 * l.depth + 1

abbrev pub decreases-operand : goal.decreases-operand
decreases-operand l = 32 * l.depth + 2

abbrev pub decreases-value : goal.decreases-value
decreases-value l = 32 * l.depth
