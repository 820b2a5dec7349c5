use Rattle.std.proofs.Common.{◌≡◌, ◌++◌, drop}
use Rattle.ot_show_c.specs.Programs.{further_lists, lists}
use Rattle.ot_show_c.proofs.whole.lists.Given as goal

-- those that are left follow
abbrev pub invariant-loop-section : goal.invariant-loop-section
invariant-loop-section l =
    (l.out.names ≡ l.fn.out.names)
    × (l.out.text ++ further_lists l.fn.out.names l.margin (drop l.section-index l.section-items) ≡ l.fn.out.text ++ lists l.fn.out.names l.margin l.shows)
