use Rattle.std.proofs.Common.{rules}
use Rattle.ot_commands.specs.Rules.{names_rule}
use Rattle.ot_commands.proofs.arguments.names_arg.Goals as goal

pub returns-clause-rule : goal.returns-clause-rule
unfolding names_rule
returns-clause-rule c = search rules
