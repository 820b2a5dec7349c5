use Rattle.std.proofs.Common.{◌++◌, ◌∙◌, ap, List}
use Rattle.std.specs.Prelude.{codes}
use Rattle.std.proofs.lemmas.Result.{on_ok_weaker}
use Rattle.ot_show_print.specs.Shown as shown
use Rattle.ot_show_print.specs.Shown.{Text, sections_of}
use Rattle.ot_show_print.proofs.WordLemmas.{grown}
use Rattle.ot_show_print.proofs.printer.Printer.group_as.Goals as goal

pub returns-clause-text : goal.returns-clause-text
returns-clause-text c =
    let head : List Text → Text = λ n. c.args.head.now in
    let cells : List Text → Text = λ n. shown.reduction n (codes " task_reduction(") c.args.op (sections_of c.args.cells.now) in
    on_ok_weaker c.reduction.result
    (λ e. grown head cells c.args.self.now c.words.new.self c.reduction.new.self c.in_ok-words.ensures.text c.words.ensures.names
    (e ∙ ap (λ ss. c.words.new.self.text ++ shown.reduction c.words.new.self.names (codes " task_reduction(") c.args.op ss) (c.deref.ensures.value ∙ c.in_ok-sections.ensures)))
    c.reduction.ensures.text
