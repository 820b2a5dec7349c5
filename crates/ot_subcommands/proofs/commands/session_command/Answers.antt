use Rattle.std.proofs.Common.{ap, ◌∙◌, true, Some}
use Rattle.std.proofs.lemmas.Result.{IfOk-weaker}
use Rattle.clap.specs.Words.{Shape, with_subcommand}
use Rattle.clap.specs.Simple.{app_of_fields, on_top}
use Rattle.clap.specs.declared.builder.command.Command.TheViews.{out-Command}
use Rattle.ot_commands.proofs.Added.{app_of-added}
use Rattle.ot_subcommands.specs.Grammar.{ask_words, explain_words, restore_words, save_words, session_words}
use Rattle.ot_subcommands.proofs.commands.session_command.Goals as goal

pub returns : goal.returns
unfolding session_words
returns c =
    let named = ap app_of_fields c.about.ensures ∙ c.new.ensures.app in
    let versioned = ap app_of_fields {y = record (out-Command c.about.result) { version = Some _ }} c.version.ensures
    ∙ ap (on_top (λ (s : Shape). record s { has_version = true })) named in
    let required = ap app_of_fields {y = record (out-Command c.version.result) { subcommand_required = true }} c.subcommand_required-command.ensures in
    let top = required ∙ ap (on_top (λ (s : Shape). record s { subcommand_required = true })) versioned in
    let with_explain = app_of-added _ _ _ explain_words c.explain_command.ensures.words c.explain_command.ensures.own c.in_ok-command.ensures
    ∙ ap (λ app. with_subcommand app explain_words) top in
    let with_ask = app_of-added _ _ _ ask_words c.ask_command.ensures.words c.ask_command.ensures.own c.in_ok-command-2.ensures
    ∙ ap (λ app. with_subcommand app ask_words) with_explain in
    let with_save = app_of-added _ _ _ save_words c.save_command.ensures.words c.save_command.ensures.own c.in_ok-command-3.ensures
    ∙ ap (λ app. with_subcommand app save_words) with_ask in
    IfOk-weaker c.with_subcommand-4.result _ _
    (λ command added. app_of-added _ command _ restore_words c.restore_command.ensures.words c.restore_command.ensures.own added
    ∙ ap (λ app. with_subcommand app restore_words) with_save)
    c.with_subcommand-4.ensures
