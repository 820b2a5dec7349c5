use Rattle.std.proofs.Common.{◌≡◌, ◌++◌, map}
use Rattle.std.specs.List.{range_with_len}
use Rattle.ot_model.specs.Tree.{cell_at}
use Rattle.ot_model.specs.declared.stmt.Mode.TheVariants.{Reads}
use Rattle.ot_check.specs.Offences.{use_as}
use Rattle.ot_race_ways.proofs.reads.note_section.Given as goal

abbrev pub invariant-loop-step : goal.invariant-loop-step
invariant-loop-step l = l.uses.items ≡ l.initial.uses.items ++ map (use_as Reads) (map (cell_at l.section) (range_with_len 0 l.step))
