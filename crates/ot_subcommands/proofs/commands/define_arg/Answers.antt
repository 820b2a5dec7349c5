use Rattle.std.proofs.Common.{rules}
use Rattle.ot_subcommands.specs.Grammar.{define_rule}
use Rattle.ot_subcommands.proofs.commands.define_arg.Goals as goal

pub returns-clause-rule : goal.returns-clause-rule
unfolding define_rule
returns-clause-rule c = search rules
