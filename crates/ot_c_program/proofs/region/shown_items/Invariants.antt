use Rattle.std.proofs.Common.{◌≡◌, drop}
use Rattle.ot_c_expressions.specs.Tree.{items_of}
use Rattle.ot_c_program.specs.Regions as meant
use Rattle.ot_c_program.proofs.region.shown_items.Given as goal

-- those that are left complete what there is
abbrev pub invariant-loop-item : goal.invariant-loop-item
invariant-loop-item l = meant.shown_items l.meanings l.seen.items (items_of (drop l.item-index l.items)) ≡ meant.shown_items l.meanings l.fn.seen.items (items_of l.items)
