use Rattle.std.proofs.Common.{◌≡◌, ◌+◌, ◌-◌, ◌++◌, map}
use Rattle.ot_c_overlap.specs.Items.{item_of, each_cell}
use Rattle.ot_c_overlap.proofs.item.note_cells.Given as goal

-- what is noted, with the cells that are left, is what all give
abbrev pub invariant-loop-index : goal.invariant-loop-index
invariant-loop-index l =
    l.noted.items ++ map (item_of l.whole.parent l.whole.entry)
    (each_cell l.whole.writes l.whole.section.array l.index (l.whole.section.start + l.whole.section.len - l.index))
    ≡ l.initial.noted.items ++ map (item_of l.whole.parent l.whole.entry)
    (each_cell l.whole.writes l.whole.section.array l.whole.section.start l.whole.section.len)
