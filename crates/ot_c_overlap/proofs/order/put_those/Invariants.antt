use Rattle.std.proofs.Common.{◌≡◌, ◌++◌, drop}
use Rattle.std.specs.List.{filter}
use Rattle.ot_c_overlap.specs.Overlaps.{writes_so}
use Rattle.ot_c_overlap.proofs.order.put_those.Given as goal

-- what is put, with those of the rest, is all
abbrev pub invariant-loop-item : goal.invariant-loop-item
invariant-loop-item l =
    l.ordered.items ++ filter (writes_so l.writes) (drop l.item-index l.items) ≡ l.initial.ordered.items ++ filter (writes_so l.writes) l.items
