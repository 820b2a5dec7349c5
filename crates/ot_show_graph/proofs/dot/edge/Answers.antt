use Rattle.std.proofs.Common.{◌++◌, sym, ap, ◌∙◌}
use Rattle.std.specs.Prelude.{codes}
use Rattle.ot_check.proofs.Cited.{on_ok}
use Rattle.ot_show_print.specs.Shown.{sections, sections_of}
use Rattle.ot_show_graph.specs.Children.{decls_of}
use Rattle.ot_show_graph.specs.Links.{between, cells_at}
use Rattle.ot_show_graph.specs.Dot.{words_numbered}
use Rattle.ot_show_graph.specs.Written.{cells_with}
use Rattle.ot_show_graph.proofs.DotLemmas.{in_five, label_is, edge_is}
use Rattle.ot_show_graph.proofs.dot.edge.Goals as goal

pub returns-clause-text : goal.returns-clause-text
returns-clause-text c =
    let out = c.args.out.now in
    let link = c.args.link in
    let one = c.index-children-link.result in
    let other = c.index-children-link-2.result in
    let children = c.args.children.now in
    let met = cells_at one.decl.now (between link (decls_of children)) other.decl.now in
    on_ok c.words-2.result _ _
    (λ last.
    in_five out.text c.numbered.new.out.text c.numbered-2.new.out.text c.words.new.self.text c.put_label.new.out.text c.words-2.new.self.text
    (words_numbered (codes "  t") one.number) (words_numbered (codes " -> t") other.number) (codes " [label=\"") (sections out.names (sections_of met)) (codes "\"];\n")
    (c.in_ok-numbered.ensures.text ∙ ap (λ n. out.text ++ words_numbered (codes "  t") n) c.from.ensures)
    (c.in_ok-numbered-2.ensures.text ∙ ap (λ n. c.numbered.new.out.text ++ words_numbered (codes " -> t") n) c.from-2.ensures)
    c.in_ok-words.ensures.text
    (c.in_ok-put_label.ensures.text
    ∙ ap (λ names. c.words.new.self.text ++ sections names (sections_of (cells_with c.index-labels-link.result link.earlier)))
    (c.in_ok-words.ensures.names ∙ c.in_ok-numbered-2.ensures.names ∙ c.in_ok-numbered.ensures.names)
    ∙ ap (λ cells. c.words.new.self.text ++ sections out.names (sections_of cells))
    (label_is children c.args.labels.now link one other c.index-labels-link.result c.requires.labels c.requires.len c.requires.order c.if-link-children-2.false
    c.index-children-link.is c.index-children-link-2.is c.index-labels-link.is))
    last
    ∙ ap (λ t. out.text ++ t) (sym (edge_is out.names children link one other c.if-link-children.false c.if-link-children-2.false c.index-children-link.is c.index-children-link-2.is)))
    c.words-2.ensures.text
