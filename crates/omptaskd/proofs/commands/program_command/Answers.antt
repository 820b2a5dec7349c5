use Rattle.std.proofs.Common.{ap, ap₂, ◌∙◌, true, Some}
use Rattle.std.proofs.lemmas.Result.{IfOk-weaker}
use Rattle.clap.specs.Words.{Shape, with_subcommand}
use Rattle.clap.specs.Simple.{app_of_fields, on_top}
use Rattle.clap.specs.declared.builder.command.Command.TheViews.{out-Command}
use Rattle.ot_commands.proofs.Added.{app_of-added}
use Rattle.omptaskd.specs.Grammar.{program_words, serve_words}
use Rattle.omptaskd.proofs.commands.program_command.Goals as goal

pub returns : goal.returns
unfolding program_words
returns c =
    let named = ap app_of_fields c.about.ensures ∙ c.new.ensures.app in
    let versioned = ap app_of_fields {y = record (out-Command c.about.result) { version = Some _ }} c.version.ensures
    ∙ ap (on_top (λ (s : Shape). record s { has_version = true })) named in
    let required = ap app_of_fields {y = record (out-Command c.version.result) { subcommand_required = true }} c.subcommand_required.ensures in
    let top = required ∙ ap (on_top (λ (s : Shape). record s { subcommand_required = true })) versioned in
    let with_solo = c.in_ok-subcommand.ensures.shape c.solo_command.ensures.own ∙ ap₂ with_subcommand top c.solo_command.ensures.words in
    let with_sim = c.in_ok-command.ensures.shape c.sim_command.ensures.own ∙ ap₂ with_subcommand with_solo c.sim_command.ensures.words in
    IfOk-weaker c.with_subcommand.result _ _
    (λ command added. app_of-added _ command _ serve_words c.serve_command.ensures.words c.serve_command.ensures.own added
    ∙ ap (λ app. with_subcommand app serve_words) with_sim)
    c.with_subcommand.ensures
