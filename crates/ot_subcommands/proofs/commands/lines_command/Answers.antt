use Rattle.std.proofs.Common.{ap, ap₂, ◌∙◌, ◌||◌}
use Rattle.std.proofs.lemmas.Result.{IfOk-weaker}
use Rattle.clap.specs.Words.{App, with_rule}
use Rattle.clap.specs.Simple.{app_of_fields}
use Rattle.clap.specs.declared.builder.command.Command.{Command}
use Rattle.clap.specs.declared.builder.command.Command.TheOpen.{Command-F}
use Rattle.ot_subcommands.specs.Grammar.{lines_words}
use Rattle.ot_subcommands.proofs.commands.lines_command.Goals as goal

-- what the command is about, and its further help, are no part of its words
pub returns-clause-words : goal.returns-clause-words
unfolding lines_words
returns-clause-words c =
    let new = ap app_of_fields c.after_help.ensures ∙ ap app_of_fields c.about.ensures ∙ c.new.ensures.app in
    let call = c.in_ok-arg.ensures.shape c.call_arg.ensures.own ∙ ap₂ with_rule new c.call_arg.ensures.rule in
    IfOk-weaker c.arg-2.result _ _
    (λ command added. ap (λ (a : App). a.top) (added.shape c.names_arg.ensures.own ∙ ap₂ with_rule call c.names_arg.ensures.rule))
    c.arg-2.ensures

-- no argument is global
pub returns-clause-own : goal.returns-clause-own
returns-clause-own c =
    let new = ap (λ (f : Command-F Command). f.has_globals) c.after_help.ensures
    ∙ ap (λ (f : Command-F Command). f.has_globals) c.about.ensures ∙ c.new.ensures.local in
    let call = c.in_ok-arg.ensures.globals ∙ ap₂ (λ a b. a || b) new c.call_arg.ensures.own in
    IfOk-weaker c.arg-2.result _ _ (λ command added. added.globals ∙ ap₂ (λ a b. a || b) call c.names_arg.ensures.own) c.arg-2.ensures
