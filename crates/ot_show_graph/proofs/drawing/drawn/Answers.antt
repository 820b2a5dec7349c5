use Rattle.std.proofs.Common.{ap, ◌∙◌}
use Rattle.ot_show_print.specs.Shown.{names_of}
use Rattle.ot_show_graph.specs.Dot.{text}
use Rattle.ot_show_graph.proofs.drawing.drawn.Goals as goal

pub returns : goal.returns
returns c = record {
  graph = c.in_ok-graph.graph;
  families = c.in_ok-graph.ensures.families;
  marks = c.in_ok-graph.ensures.marks;
  text = c.in_ok-text.ensures ∙ ap (λ arrays. text (names_of arrays) c.in_ok-graph.graph) c.as_slice.ensures.value;
  tasks = c.in_ok-graph.ensures.tasks;
}
