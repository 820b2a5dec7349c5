use Rattle.std.proofs.Common.{ap, ◌∙◌}
use Rattle.clap.specs.Simple.{shape_of_fields}
use Rattle.ot_subcommands.specs.Grammar.{c_words}
use Rattle.ot_subcommands.proofs.commands.c_command.Goals as goal

-- what the command is about, and its further help, are no part of its words
pub returns-clause-words : goal.returns-clause-words
unfolding c_words
returns-clause-words c = ap shape_of_fields c.after_help.ensures ∙ ap shape_of_fields c.about.ensures ∙ ap (λ a. a.top) c.new.ensures.app
