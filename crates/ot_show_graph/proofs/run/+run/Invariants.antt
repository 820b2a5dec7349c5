use Rattle.std.proofs.Common.{◌≡◌, ◌+◌, ◌++◌, ◌≤◌, drop}
use Rattle.ot_model.specs.View.{stmts_of}
use Rattle.ot_model.specs.Tree.{size, tasks_in}
use Rattle.ot_model.specs.Serial.{serial, state_of}
use Rattle.ot_model.specs.Names.{NamedIn}
use Rattle.ot_model.specs.Cells.{lengths}
use Rattle.ot_show_graph.specs.Passing.{children_in, inside, passes, children_unawaited}
use Rattle.ot_show_graph.specs.Children.{all_of}
use Rattle.ot_show_graph.specs.Graphs.{families_of, marks_of}
use Rattle.ot_show_graph.proofs.run.+run.Given as goal

-- what is left of the body, run from the cells and counts as they are now, gives what the whole body gives
abbrev pub invariant-run_all-loop-stmt : goal.invariant-run_all-loop-stmt
invariant-run_all-loop-stmt l = record {
  serial : serial (stmts_of (drop l.stmt-index l.body.items)) (state_of l.run.cells l.run.counts)
      ≡ serial (stmts_of l.body.items) (state_of l.initial.run.cells l.initial.run.counts);
  kept : lengths l.run.cells ≡ lengths l.initial.run.cells;
  named : NamedIn (lengths l.initial.run.cells) (stmts_of (drop l.stmt-index l.body.items));
  units : l.run.counts.units + size (stmts_of (drop l.stmt-index l.body.items)) ≤ l.initial.run.counts.units + size (stmts_of l.body.items);
  tasks : l.run.counts.tasks + tasks_in (stmts_of (drop l.stmt-index l.body.items)) ≤ l.initial.run.counts.tasks + tasks_in (stmts_of l.body.items);
  place : l.next + size (stmts_of (drop l.stmt-index l.body.items)) ≡ l.place + size (stmts_of l.body.items);
  parent : l.region.parent ≡ l.initial.region.parent;
  children : all_of l.region.children.items ++ children_in l.next (stmts_of (drop l.stmt-index l.body.items)) (state_of l.run.cells l.run.counts)
      ≡ all_of l.initial.region.children.items ++ children_in l.place (stmts_of l.body.items) (state_of l.initial.run.cells l.initial.run.counts);
  families : families_of l.run.families.items ++ inside l.next (stmts_of (drop l.stmt-index l.body.items)) (state_of l.run.cells l.run.counts)
      ≡ families_of l.initial.run.families.items ++ inside l.place (stmts_of l.body.items) (state_of l.initial.run.cells l.initial.run.counts);
  pending : children_unawaited l.next (stmts_of (drop l.stmt-index l.body.items)) (state_of l.run.cells l.run.counts) (all_of l.region.pending.items)
      ≡ children_unawaited l.place (stmts_of l.body.items) (state_of l.initial.run.cells l.initial.run.counts) (all_of l.initial.region.pending.items);
  marks : marks_of l.run.marks.items
      ++ passes l.region.parent l.next (stmts_of (drop l.stmt-index l.body.items)) (state_of l.run.cells l.run.counts) (all_of l.region.pending.items)
      ≡ marks_of l.initial.run.marks.items
      ++ passes l.initial.region.parent l.place (stmts_of l.body.items) (state_of l.initial.run.cells l.initial.run.counts) (all_of l.initial.region.pending.items);
}
