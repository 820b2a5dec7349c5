use Rattle.ot_show_graph.specs.Children.{decls_of}
use Rattle.ot_show_graph.proofs.DotLemmas.{links_ordered, itself}
use Rattle.ot_show_graph.proofs.dot.edges.Goals as goal

pub edge-requires-clause-order : goal.edge-requires-clause-order
edge-requires-clause-order c = links_ordered (decls_of c.args.children.now) c.args.links.now c.loop-link.link-index itself c.requires c.loop-link-test.true
