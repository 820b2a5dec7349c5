use Rattle.std.proofs.Common.{◌≡◌, take}
use Rattle.ot_show_graph.specs.Links.{siblings_with}
use Rattle.ot_show_graph.specs.Children.{decls_of}
use Rattle.ot_show_graph.proofs.link.enrolled.Given as goal

abbrev pub invariant-loop-child : goal.invariant-loop-child
invariant-loop-child l = l.siblings ≡ siblings_with (decls_of (take l.child-index l.children))
