use Rattle.std.proofs.Common.{◌≡◌, ◌≤◌, ◌++◌, drop}
use Rattle.ot_show_graph.specs.Graphs.{marks_of}
use Rattle.ot_show_graph.specs.Dot.{nodes}
use Rattle.ot_show_graph.proofs.dot.nodes.Given as goal

-- those of the marks that are left follow
abbrev pub invariant-loop-mark : goal.invariant-loop-mark
invariant-loop-mark l = record {
  names : l.out.names ≡ l.fn.out.names;
  waits : l.waits ≤ l.mark-index;
  groups : l.groups ≤ l.mark-index;
  text : l.out.text ++ nodes l.fn.out.names l.waits l.groups (marks_of (drop l.mark-index l.marks)) ≡ l.fn.out.text ++ nodes l.fn.out.names 0 0 (marks_of l.marks);
}
