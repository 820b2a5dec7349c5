use denote.Text.{Utf8}
use denote.Shadow.{shadow}
use Rattle.std.proofs.Common.{◌≡◌, ◌++◌, ◌+◌, ◌-◌}
use Rattle.ot_show_c.specs.Statements.{item_row}
use Rattle.ot_show_c.proofs.clause.row.Given as goal

-- those that are left follow
abbrev pub invariant-loop-place : goal.invariant-loop-place
invariant-loop-place l =
    shadow (Utf8 l.words)
    × (l.out.names ≡ l.fn.out.names)
    × (l.out.text ++ item_row l.fn.out.names l.words l.section.array (l.section.start + l.place) (l.section.len - l.place) ≡ l.fn.out.text ++ item_row l.fn.out.names l.before l.section.array l.section.start l.section.len)
