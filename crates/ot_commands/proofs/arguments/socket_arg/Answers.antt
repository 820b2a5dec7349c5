use Rattle.std.proofs.Common.{rules}
use Rattle.ot_commands.specs.Rules.{socket_rule}
use Rattle.ot_commands.proofs.arguments.socket_arg.Goals as goal

pub returns-clause-rule : goal.returns-clause-rule
unfolding socket_rule
returns-clause-rule c = search rules
