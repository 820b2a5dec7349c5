use Rattle.std.proofs.Common.{rules}
use Rattle.ot_subcommands.specs.Grammar.{name_rule}
use Rattle.ot_subcommands.proofs.commands.name_arg.Goals as goal

pub returns-clause-rule : goal.returns-clause-rule
unfolding name_rule
returns-clause-rule c = search rules
