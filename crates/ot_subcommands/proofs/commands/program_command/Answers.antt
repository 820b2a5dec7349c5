use Rattle.std.proofs.Common.{ap, ap₂, ◌∙◌}
use Rattle.std.proofs.lemmas.Result.{IfOk-weaker}
use Rattle.clap.specs.Words.{with_subcommand}
use Rattle.ot_commands.proofs.Added.{app_of-added}
use Rattle.ot_subcommands.specs.Grammar.{graph_words, check_words, lines_words, program_words}
use Rattle.ot_subcommands.proofs.commands.program_command.Goals as goal

pub returns : goal.returns
unfolding program_words
returns c =
    let with_graph = app_of-added _ _ _ graph_words c.graph_command.ensures.words c.graph_command.ensures.own c.in_ok-command.ensures
    ∙ ap (λ app. with_subcommand app graph_words) c.in_ok-session_command.ensures in
    let with_c = c.in_ok-command-2.ensures.shape c.c_command.ensures.own ∙ ap₂ with_subcommand with_graph c.c_command.ensures.words in
    let with_check = app_of-added _ _ _ check_words c.check_command.ensures.words c.check_command.ensures.own c.in_ok-command-3.ensures
    ∙ ap (λ app. with_subcommand app check_words) with_c in
    IfOk-weaker c.with_subcommand-3.result _ _
    (λ command added. app_of-added _ command _ lines_words c.lines_command.ensures.words c.lines_command.ensures.own added
    ∙ ap (λ app. with_subcommand app lines_words) with_check)
    c.with_subcommand-3.ensures
