use Rattle.std.proofs.Common.{rules}
use Rattle.ot_subcommands.specs.Grammar.{code_rule}
use Rattle.ot_subcommands.proofs.commands.code_arg.Goals as goal

pub returns-clause-rule : goal.returns-clause-rule
unfolding code_rule
returns-clause-rule c = search rules
