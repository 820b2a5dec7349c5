use Rattle.std.proofs.Common.{rules}
use Rattle.ot_subcommands.specs.Grammar.{format_rule}
use Rattle.ot_subcommands.proofs.commands.format_arg.Goals as goal

pub returns-clause-rule : goal.returns-clause-rule
unfolding format_rule
returns-clause-rule c = search rules
