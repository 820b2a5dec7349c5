use Rattle.std.proofs.Common.{rules}
use Rattle.ot_commands.specs.Rules.{number_rule}
use Rattle.ot_commands.proofs.arguments.number_arg.Goals as goal

pub returns-clause-rule : goal.returns-clause-rule
unfolding number_rule
returns-clause-rule c = search rules
