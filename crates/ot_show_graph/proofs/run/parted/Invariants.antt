use Rattle.std.proofs.Common.{◌≡◌, take}
use Rattle.std.specs.Prelude.{option_copied}
use Rattle.std.specs.List.{filter}
use Rattle.ot_show_graph.specs.Children.{all_of}
use Rattle.ot_show_graph.specs.Passing.{spares, takes_child}
use Rattle.ot_show_graph.proofs.run.parted.Given as goal

abbrev pub invariant-loop-child : goal.invariant-loop-child
invariant-loop-child l =
    (all_of l.awaited.items ≡ filter (takes_child (option_copied l.wait)) (all_of (take l.child-index l.pending)))
    × (all_of l.left.items ≡ filter (spares (option_copied l.wait)) (all_of (take l.child-index l.pending)))
