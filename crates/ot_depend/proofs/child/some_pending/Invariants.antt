use Rattle.std.proofs.Common.{◌≡◌, drop}
use Rattle.std.specs.List.{list_any}
use Rattle.ot_depend.specs.Children.{kids_of}
use Rattle.ot_depend.specs.Cells.{is_pending}
use Rattle.ot_depend.proofs.child.some_pending.Given as goal

-- what is left decides
abbrev pub invariant-loop-child : goal.invariant-loop-child
invariant-loop-child l = list_any (is_pending (kids_of l.children)) (drop l.child-index l.some) ≡ list_any (is_pending (kids_of l.children)) l.some
