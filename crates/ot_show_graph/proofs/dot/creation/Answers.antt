use Rattle.std.proofs.Common.{◌++◌, sym, ap, ◌∙◌}
use Rattle.std.specs.Prelude.{codes}
use Rattle.ot_check.proofs.Cited.{on_ok}
use Rattle.ot_show_graph.specs.Dot.{creation, words_numbered}
use Rattle.ot_show_graph.specs.Graphs.{passed_of}
use Rattle.ot_show_graph.proofs.DotLemmas.{in_three}
use Rattle.ot_show_graph.proofs.dot.creation.Goals as goal

pub returns-in_ok-numbered-in-Task-2-clause-text : goal.returns-in_ok-numbered-in-Task-2-clause-text
returns-in_ok-numbered-in-Task-2-clause-text c =
    let out = c.args.out.now in
    on_ok c.words.result _ _
    (λ last.
    in_three out.text c.numbered.new.out.text c.numbered-in-Task.new.out.text c.words.new.self.text
    (words_numbered (codes "  t") c.in-Task.parent) (words_numbered (codes " -> t") c.in-Task.child.number) (codes " [style=dashed];\n")
    (c.in_ok-numbered-in-Task.ensures.text ∙ ap (λ n. out.text ++ words_numbered (codes "  t") n) c.from.ensures)
    (c.in_ok-numbered-in-Task-2.ensures.text ∙ ap (λ n. c.numbered.new.out.text ++ words_numbered (codes " -> t") n) c.from-in-Task.ensures) last
    ∙ ap (λ mark. out.text ++ creation c.args.wait (passed_of mark)) (sym c.in-Task.is))
    c.words.ensures.text
