use Rattle.std.proofs.Common.{ap, ◌∙◌}
use Rattle.clap.specs.Simple.{shape_of_fields}
use Rattle.omptaskd.specs.Grammar.{solo_words}
use Rattle.omptaskd.proofs.commands.solo_command.Goals as goal

-- what the command is about is no part of its words
pub returns-clause-words : goal.returns-clause-words
unfolding solo_words
returns-clause-words c = ap shape_of_fields c.about.ensures ∙ ap (λ a. a.top) c.new.ensures.app
