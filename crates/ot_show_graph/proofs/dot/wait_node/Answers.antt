use Rattle.std.proofs.Common.{◌++◌, ap, ◌∙◌}
use Rattle.std.specs.Prelude.{codes, option_copied}
use Rattle.ot_check.proofs.Cited.{on_ok}
use Rattle.ot_show_print.specs.Shown.{wait}
use Rattle.ot_show_graph.specs.Dot.{words_numbered}
use Rattle.ot_show_graph.proofs.DotLemmas.{in_four}
use Rattle.ot_show_graph.proofs.dot.wait_node.Goals as goal

pub returns-clause-text : goal.returns-clause-text
returns-clause-text c =
    let out = c.args.out.now in
    let w = option_copied c.args.wait in
    on_ok c.words-2.result _ _
    (in_four out.text c.numbered.new.out.text c.words.new.self.text c.wait_label.new.out.text c.words-2.new.self.text
    (words_numbered (codes "  w") c.args.number) (codes " [shape=box, label=\"") (wait out.names w) (codes "\"];\n")
    c.in_ok-numbered.ensures.text c.in_ok-words.ensures.text
    (c.in_ok-wait_label.ensures.text ∙ ap (λ names. c.words.new.self.text ++ wait names w) (c.in_ok-words.ensures.names ∙ c.in_ok-numbered.ensures.names)))
    c.words-2.ensures.text
