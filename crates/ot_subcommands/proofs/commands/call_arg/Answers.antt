use Rattle.std.proofs.Common.{rules}
use Rattle.ot_subcommands.specs.Grammar.{call_rule}
use Rattle.ot_subcommands.proofs.commands.call_arg.Goals as goal

pub returns-clause-rule : goal.returns-clause-rule
unfolding call_rule
returns-clause-rule c = search rules
