use Rattle.std.proofs.Common.{rules}
use Rattle.ot_commands.specs.Rules.{flag_rule}
use Rattle.ot_commands.proofs.arguments.flag_arg.Goals as goal

pub returns-clause-rule : goal.returns-clause-rule
unfolding flag_rule
returns-clause-rule c = search rules
