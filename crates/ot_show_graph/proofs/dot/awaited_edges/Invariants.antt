use Rattle.std.proofs.Common.{◌≡◌, ◌++◌, drop}
use Rattle.ot_show_graph.specs.Children.{all_of}
use Rattle.ot_show_graph.specs.Dot.{awaited_edges}
use Rattle.ot_show_graph.proofs.dot.awaited_edges.Given as goal

-- those that are left follow
abbrev pub invariant-loop-child : goal.invariant-loop-child
invariant-loop-child l =
    (l.out.names ≡ l.fn.out.names)
    × (l.out.text ++ awaited_edges l.wait (all_of (drop l.child-index l.awaited)) ≡ l.fn.out.text ++ awaited_edges l.wait (all_of l.awaited))
