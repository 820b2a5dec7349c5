use Rattle.std.proofs.Common.{◌≡◌, ◌++◌, drop}
use Rattle.ot_show_graph.specs.Dot.{edges}
use Rattle.ot_show_graph.proofs.dot.edges.Given as goal

-- those that are left follow
abbrev pub invariant-loop-link : goal.invariant-loop-link
invariant-loop-link l =
    (l.out.names ≡ l.fn.out.names)
    × (l.out.text ++ edges l.fn.out.names l.children (drop l.link-index l.links) ≡ l.fn.out.text ++ edges l.fn.out.names l.children l.links)
