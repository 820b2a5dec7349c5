use Rattle.std.proofs.Common.{◌≡◌, ◌++◌, drop}
use Rattle.ot_show_graph.specs.Dot.{edges_of}
use Rattle.ot_show_graph.proofs.dot.edges_of.Given as goal

-- those that are left follow
abbrev pub invariant-loop-family : goal.invariant-loop-family
invariant-loop-family l =
    (l.out.names ≡ l.fn.out.names)
    × (l.out.text ++ edges_of l.fn.out.names (drop l.family-index l.families) ≡ l.fn.out.text ++ edges_of l.fn.out.names l.families)
