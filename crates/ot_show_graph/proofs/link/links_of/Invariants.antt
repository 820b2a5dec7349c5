use Rattle.ot_show_graph.specs.Children.{decls_of}
use Rattle.ot_show_graph.proofs.LinkLemmas.{AreSoFar}
use Rattle.ot_show_graph.proofs.link.links_of.Given as goal

abbrev pub invariant-loop-earlier : goal.invariant-loop-earlier
invariant-loop-earlier l = AreSoFar (decls_of l.children) l.earlier l.links.items l.siblings
