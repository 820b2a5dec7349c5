use Rattle.std.proofs.Common.{ap, ap₂, ◌∙◌, ◌||◌}
use Rattle.std.proofs.lemmas.Result.{IfOk-weaker}
use Rattle.clap.specs.Words.{App, with_rule}
use Rattle.ot_subcommands.specs.Grammar.{check_words}
use Rattle.ot_subcommands.proofs.commands.check_command.Goals as goal

pub returns-clause-words : goal.returns-clause-words
unfolding check_words
returns-clause-words c =
    let format = c.in_ok-arg.ensures.shape c.format_arg.ensures.own ∙ ap₂ with_rule c.in_ok-judging_command.ensures.words c.format_arg.ensures.rule in
    let quiet = c.in_ok-arg-2.ensures.shape c.flag_arg.ensures.own ∙ ap₂ with_rule format c.flag_arg.ensures.rule in
    let races = c.in_ok-arg-3.ensures.shape c.flag_arg-2.ensures.own ∙ ap₂ with_rule quiet c.flag_arg-2.ensures.rule in
    IfOk-weaker c.arg-4.result _ _
    (λ command added. ap (λ (a : App). a.top) (added.shape c.names_arg.ensures.own ∙ ap₂ with_rule races c.names_arg.ensures.rule))
    c.arg-4.ensures

-- no argument is global
pub returns-clause-own : goal.returns-clause-own
returns-clause-own c =
    let format = c.in_ok-arg.ensures.globals ∙ ap₂ (λ a b. a || b) c.in_ok-judging_command.ensures.own c.format_arg.ensures.own in
    let quiet = c.in_ok-arg-2.ensures.globals ∙ ap₂ (λ a b. a || b) format c.flag_arg.ensures.own in
    let races = c.in_ok-arg-3.ensures.globals ∙ ap₂ (λ a b. a || b) quiet c.flag_arg-2.ensures.own in
    IfOk-weaker c.arg-4.result _ _ (λ command added. added.globals ∙ ap₂ (λ a b. a || b) races c.names_arg.ensures.own) c.arg-4.ensures
