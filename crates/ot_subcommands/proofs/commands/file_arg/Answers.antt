use Rattle.std.proofs.Common.{rules}
use Rattle.ot_subcommands.specs.Grammar.{file_rule}
use Rattle.ot_subcommands.proofs.commands.file_arg.Goals as goal

pub returns-clause-rule : goal.returns-clause-rule
unfolding file_rule
returns-clause-rule c = search rules
