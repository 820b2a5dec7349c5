use Rattle.std.proofs.Common.{◌≡◌, ◌-◌, map}
use Rattle.std.specs.List.{fold, range_with_len}
use Rattle.ot_model.specs.Tree.{cell_at}
use Rattle.ot_model.specs.declared.expr.Cell.{Cell}
use Rattle.ot_model.specs.declared.stmt.Mode.TheVariants.{Reads}
use Rattle.ot_parts.specs.Modes.{use_as, mode_added, strongest}
use Rattle.ot_parts.proofs.touched.note_section.Given as goal

-- what is touched so far, with the cells that are left
abbrev pub invariant-loop-step : goal.invariant-loop-step
invariant-loop-step l =
    (c : Cell) → fold (mode_added c) (strongest l.held c) (map (use_as Reads) (map (cell_at l.section) (range_with_len l.step (l.section.len - l.step))))
    ≡ fold (mode_added c) (strongest l.initial.held c) (map (use_as Reads) (map (cell_at l.section) (range_with_len 0 l.section.len)))
