use Rattle.std.proofs.Common.{◌≡◌, length, take}
use Rattle.ot_show_graph.specs.Children.{decls_of}
use Rattle.ot_show_graph.specs.Written.{AreLabels, TellsRows, row_in_rows}
use Rattle.ot_show_graph.proofs.label.labels_of.Given as goal

abbrev pub invariant-loop-child : goal.invariant-loop-child
invariant-loop-child l = record {
  len : length l.labels.items ≡ l.child-index;
  labels : AreLabels (decls_of l.children) l.labels.items;
  tells : TellsRows (take l.child-index (decls_of l.children)) (row_in_rows l.rows);
}
