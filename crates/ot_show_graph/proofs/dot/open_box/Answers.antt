use Rattle.std.proofs.Common.{◌++◌, ap, ◌∙◌}
use Rattle.std.specs.Prelude.{codes}
use Rattle.ot_check.proofs.Cited.{on_ok}
use Rattle.ot_show_print.specs.Shown.{group}
use Rattle.ot_show_graph.specs.Dot.{words_numbered}
use Rattle.ot_show_graph.proofs.DotLemmas.{in_four}
use Rattle.ot_show_graph.proofs.dot.open_box.Goals as goal

pub returns-clause-text : goal.returns-clause-text
returns-clause-text c =
    let out = c.args.out.now in
    let cells = c.args.cells.now in
    on_ok c.words-2.result _ _
    (in_four out.text c.numbered.new.out.text c.words.new.self.text c.group.new.self.text c.words-2.new.self.text
    (words_numbered (codes "  subgraph cluster_") c.args.number) (codes " {\n  label=\"") (group out.names c.args.op cells) (codes "\";\n")
    c.in_ok-numbered.ensures.text c.in_ok-words.ensures.text
    (c.in_ok-group.ensures.text ∙ ap (λ names. c.words.new.self.text ++ group names c.args.op cells) (c.in_ok-words.ensures.names ∙ c.in_ok-numbered.ensures.names)))
    c.words-2.ensures.text
