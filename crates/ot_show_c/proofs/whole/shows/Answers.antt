use Rattle.std.proofs.Common.{◌≡◌, ◌++◌, ◌∙◌, List}
use Rattle.std.specs.Prelude.{codes}
use Rattle.std.proofs.lemmas.Result.{on_ok_weaker}
use Rattle.ot_show_print.specs.Shown.{Text}
use Rattle.ot_show_print.proofs.WordLemmas.{grown}
use Rattle.ot_show_c.specs.Statements.{line}
use Rattle.ot_show_c.specs.Programs.{lists}
use Rattle.ot_show_c.proofs.whole.shows.Goals as goal

pub returns-clause-text : goal.returns-clause-text
returns-clause-text c =
    let a = c.args.out.now in
    let opened : List Text → Text = λ n. line c.args.margin.now (codes "printf(\"[\");") in
    let all : List Text → Text = λ n. lists n c.args.margin.now c.args.shows.now in
    let ended : List Text → Text = λ n. line c.args.margin.now (codes "printf(\"]\\n\");") in
    let t1 = grown opened all a c.line.new.out c.lists.new.out c.in_ok-line.ensures.text c.line.ensures.names c.in_ok-lists.ensures.text in
    let n1 : c.lists.new.out.names ≡ a.names = c.lists.ensures.names ∙ c.line.ensures.names in
    on_ok_weaker c.line-2.result (λ e. grown (λ n. opened n ++ all n) ended a c.lists.new.out c.line-2.new.out t1 n1 e) c.line-2.ensures.text
